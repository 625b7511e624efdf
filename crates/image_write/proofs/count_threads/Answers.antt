use Rattle.std.proofs.Common.{◌≡◌, refl, ◌∙◌, rules}
use Rattle.std.proofs.lemmas.Iterator.{YieldsList-from_range}
use Rattle.std.proofs.lemmas.Iterator.Consumers.{YieldsList-from_filter, count_from_yields_List}
use Rattle.answer.specs.Tests.{tests}
use Rattle.image_write.specs.Encode.{live}
use Rattle.image_write.proofs.Counts.{lives, live_range}
use Rattle.image_write.proofs.Turns.{live_most}
use Rattle.image_write.proofs.count_threads.Goals as goal

pub returns : goal.returns
returns c =
    let e : c.count.result ≡ live c.args.threads.now 64 =
    count_from_yields_List c.filter.result _ c.count.ensures.ran
    (YieldsList-from_filter _ (lives c.args.threads.now) (YieldsList-from_range 0 64 64 c.filter.ensures.source refl) c.filter.ensures.closure (λ x b q k. search (rules, tests)))
    ∙ live_range c.args.threads.now 64 in
    (e, rw e (live_most c.args.threads.now 64))
