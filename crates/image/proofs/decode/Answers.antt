use Rattle.image.specs.Read.{read_objects, read_threads, read_slots}
use mathlib.Core.Path.{refl, ◌∙◌}
use native.Mathlib.Omega.{arith}
use Rattle.image.proofs.Answers.{head_is}
use Rattle.image.proofs.decode.Goals as goal

pub get-m-requires : goal.get-m-requires
get-m-requires c = let h = head_is c.args.image.now c.requires.head in omega arith

pub get-n-requires : goal.get-n-requires
get-n-requires c = let h = head_is c.args.image.now c.requires.head in omega arith

pub get_objects-requires : goal.get_objects-requires
get_objects-requires c = let h = head_is c.args.image.now c.requires.head in let e = c.get-m.ensures.0 in (omega arith, omega arith)

pub get_threads-requires : goal.get_threads-requires
get_threads-requires c = let h = head_is c.args.image.now c.requires.head in let e = c.get-m.ensures.0 in let f = c.get-n.ensures.0 in (omega arith, omega arith)

pub get_domains-requires : goal.get_domains-requires
get_domains-requires c = let h = head_is c.args.image.now c.requires.head in let e = c.get-m.ensures.0 in let f = c.get-n.ensures.0 in omega arith

pub returns : goal.returns
unfolding read_objects read_threads read_slots
returns c = let h = head_is c.args.image.now c.requires.head in let e = c.get-m.ensures.0 in let f = c.get-n.ensures.0 in record { objects = c.get_objects.ensures ∙ rw (c.requires.objects, e) refl; threads = c.get_threads.ensures ∙ rw (c.requires.threads, e, f) refl; slots = c.get_domains.ensures ∙ rw (e, f) refl; place = omega (arith, e, f, h.total_is) }
