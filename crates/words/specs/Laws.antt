-- What the crates above cite of words that were put: where the widest have room they are a piece, and none are wider than that.
use Rattle.std.specs.Prelude.{ℕ, zero, suc, ◌+◌, ◌-◌, ◌*◌, ◌%◌, ◌^◌, ◌<◌, ◌≤◌, Bool, true, false, cond, List, [], ◌∷◌, ◌++◌, length, ◌==◌, nat_lt, refl}
use Rattle.std.proofs.Common.{arith, ◌∙◌, length-append, le-leb}
use Rattle.std.proofs.lemmas.Bool.{lt-leb}
use Rattle.text.specs.Text.{ascii, decimal}
use Rattle.text.specs.Laws.{decimal_most, hex_most}
use Rattle.lines.specs.Steps.{Piece}
use Rattle.decoding.specs.declared.Call.{Call}
use Rattle.words.specs.Words.{Names, nth, longest, operation_names, answer_names, type_names, role_names, access_names, mode_names, rights_names, unknown, rank, operation, answer_name, address, size, labelled, field, unused, named, type, role, access, rights, home, mode_number, mode, on_handle, on_thread, on_domain, field_a, other_b, field_b, other_c, field_c, field_d, fields, call_words, value_words, answer_words, widest_operation, widest_field, widest_call, widest_answer}
use Rattle.words.specs.Placed.{place_after, text_after, Placed}

-- ---- with room, and without

pub fits : {t xs t' : List ℕ} {at r : ℕ} (widest : ℕ) → length xs ≤ widest → at + widest ≤ length t
    → Placed widest t at xs r t' → Piece t at widest xs r t'
unfolding place_after text_after
fits widest m room p =
    let e = le-leb _ _ room in
    record { next = p.next ∙ rw e refl; text = p.text ∙ rw e refl; bound = m }

pub was_put : {t xs t' : List ℕ} {at r : ℕ} (widest : ℕ) → at + widest ≤ length t → Piece t at widest xs r t' → Placed widest t at xs r t'
unfolding place_after text_after
was_put widest room p =
    let e = le-leb _ _ room in
    record { next = p.next ∙ rw e refl; text = p.text ∙ rw e refl }

pub nothing_put : {t : List ℕ} {at : ℕ} (widest : ℕ) (xs : List ℕ) → length t < at + widest → Placed widest t at xs at t
unfolding place_after text_after
nothing_put widest xs h =
    let e = lt-leb _ _ h in
    record { next = rw e refl; text = rw e refl }

-- ---- how wide words are

record Most (m : ℕ) (xs : List ℕ) : Type 0 where
  bound : length xs ≤ m

-- of two that a test picks from
either : {m : ℕ} {xs ys : List ℕ} (t : Bool) → Most m xs → Most m ys → Most m (cond t xs ys)
either true x y = x
either false x y = y

-- one behind the other
infixl 20 ◌and◌
◌and◌ : {m n : ℕ} {xs ys : List ℕ} → Most m xs → Most n ys → Most (m + n) (xs ++ ys)
x and y = record { bound = rw length-append (omega (arith, x.bound, y.bound)) }

word : (m : ℕ) (xs : List ℕ) → length xs ≤ m → Most m xs
word m xs h = record { bound = h }

number : (n : ℕ) → Most 10 (decimal n)
number n = record { bound = decimal_most n }

looser : {m : ℕ} {xs : List ℕ} (m' : ℕ) → m ≤ m' → Most m xs → Most m' xs
looser m' h x = record { bound = omega (arith, x.bound) }

-- ---- names

pub nth_most : (k : ℕ) (names : Names) → length (nth k names) ≤ longest names
unfolding longest
nth_most k [] = omega arith
nth_most zero (name ∷ names) = omega arith
nth_most (suc k) (name ∷ names) = omega (arith, nth_most k names)

-- one of names whose longest has so many bytes
one_of : (m k : ℕ) (names : Names) → longest names ≤ m → Most m (nth k names)
one_of m k names h = record { bound = omega (arith, nth_most k names, h) }

pub rank_most : (k : ℕ) → length (nth k operation_names) ≤ widest_operation
unfolding longest
rank_most k = (one_of widest_operation k operation_names (omega arith)).bound

pub mode_name_most : (k : ℕ) → length (nth k mode_names) ≤ 23
unfolding longest
mode_name_most k = (one_of 23 k mode_names (omega arith)).bound

pub answer_name_most : (k : ℕ) → length (nth k answer_names) ≤ 10
unfolding longest
answer_name_most k = (one_of 10 k answer_names (omega arith)).bound

operation_most : (op : ℕ) → Most widest_operation (operation op)
unfolding operation unknown
operation_most op = either (nat_lt (rank op) 18) (record { bound = rank_most (rank op) }) (word 10 (ascii "operation ") (omega arith) and number op)

name_most : (code : ℕ) → Most 10 (answer_name code)
unfolding answer_name
name_most code = either (nat_lt code 13) (record { bound = answer_name_most code }) (number code)

-- ---- fields

address_most : (n : ℕ) → Most 10 (address n)
unfolding address
address_most n = word 2 (ascii "0x") (omega arith) and record { bound = hex_most 8 n (omega arith) }

size_most : (n : ℕ) → Most 10 (size n)
unfolding size
size_most n = word 2 (ascii "0x") (omega arith) and record { bound = hex_most 1 n (omega arith) }

labelled_most : {xs : List ℕ} (name : List ℕ) → length name ≤ 10 → Most 10 xs → Most widest_field (labelled name xs)
unfolding labelled
labelled_most name h x =
    looser widest_field (omega arith) (word 2 (ascii ", ") (omega arith) and word 10 name h and word 1 (ascii " ") (omega arith) and x)

field_most : (name : List ℕ) (n : ℕ) → length name ≤ 10 → Most widest_field (field name n)
unfolding field
field_most name n h = labelled_most name h (number n)

unused_most : (name : List ℕ) (n : ℕ) → length name ≤ 10 → Most widest_field (unused name n)
unfolding unused
unused_most name n h = either (n == 0) (word widest_field [] (omega arith)) (field_most name n h)

named_most : (front : List ℕ) (names : Names) (name : List ℕ) (n : ℕ) → length front ≤ 7 → longest names ≤ 18 → length name ≤ 10
    → Most widest_field (named front names name n)
unfolding named
named_most front names name n f h g = either (nat_lt n (length names)) (word 7 front f and one_of 18 n names h) (field_most name n g)

type_most : (n : ℕ) → Most widest_field (type n)
unfolding type longest
type_most n = named_most (ascii ", type ") type_names (ascii "type") n (omega arith) (omega arith) (omega arith)

role_most : (n : ℕ) → Most widest_field (role n)
unfolding role longest
role_most n = named_most (ascii ", as ") role_names (ascii "supervisor") n (omega arith) (omega arith) (omega arith)

access_most : (n : ℕ) → Most widest_field (access n)
unfolding access longest
access_most n = named_most (ascii ", ") access_names (ascii "access") n (omega arith) (omega arith) (omega arith)

rights_most : (n : ℕ) → Most widest_field (rights n)
unfolding rights longest
rights_most n = named_most (ascii ", ") rights_names (ascii "attr") n (omega arith) (omega arith) (omega arith)

home_most : (n : ℕ) → Most widest_field (home n)
unfolding home
home_most n = either (n == 255) (word widest_field (ascii ", no domain") (omega arith)) (field_most _ n (omega arith))

mode_number_most : (n : ℕ) → Most widest_field (mode_number n)
unfolding mode_number
mode_number_most n =
    either (nat_lt n 2147483648) (field_most _ n (omega arith)) (word 15 (ascii ", mode -") (omega arith) and number (4294967296 - n))

mode_most : (n : ℕ) → Most widest_field (mode n)
unfolding mode
mode_most n =
    let k : ℕ = (n + 1) % 2 ^ 32 in
    either (nat_lt k 3) (word 2 (ascii ", ") (omega arith) and record { bound = mode_name_most k }) (mode_number_most n)

a_most : (op n : ℕ) → Most widest_field (field_a op n)
unfolding field_a
a_most op n = either (on_handle op) (field_most _ n (omega arith)) (either (on_domain op) (field_most _ n (omega arith)) (unused_most _ n (omega arith)))

place_most : (name : List ℕ) (n : ℕ) → length name ≤ 10 → Most widest_field (labelled name (address n))
place_most name n h = labelled_most name h (address_most n)

extent_most : (name : List ℕ) (n : ℕ) → length name ≤ 10 → Most widest_field (labelled name (size n))
extent_most name n h = labelled_most name h (size_most n)

other_b_most : (op n : ℕ) → Most widest_field (other_b op n)
unfolding other_b
other_b_most op n = either (on_thread op) (field_most _ n (omega arith)) (either (on_domain op) (place_most _ n (omega arith)) (unused_most _ n (omega arith)))

b_most : (op n : ℕ) → Most widest_field (field_b op n)
unfolding field_b
b_most op n =
    either (op == 0) (type_most n) (either (op == 1) (field_most _ n (omega arith)) (either (op == 3) (place_most _ n (omega arith)) (
    either (op == 16) (type_most n) (either (op == 18) (field_most _ n (omega arith)) (either (op == 25) (field_most _ n (omega arith)) (other_b_most op n))))))

other_c_most : (op n : ℕ) → Most widest_field (other_c op n)
unfolding other_c
other_c_most op n = either (on_domain op) (extent_most _ n (omega arith)) (unused_most _ n (omega arith))

c_most : (op n : ℕ) → Most widest_field (field_c op n)
unfolding field_c
c_most op n =
    either (op == 0) (mode_most n) (either (op == 3) (extent_most _ n (omega arith)) (either (op == 23) (role_most n) (
    either (op == 25) (field_most _ n (omega arith)) (either (op == 26) (home_most n) (other_c_most op n)))))

d_most : (op n : ℕ) → Most widest_field (field_d op n)
unfolding field_d
d_most op n = either (op == 3) (access_most n) (either (op == 27) (rights_most n) (unused_most _ n (omega arith)))

fields_most : (c : Call) → Most (4 * widest_field) (fields c)
unfolding fields
fields_most c = a_most c.op c.a and b_most c.op c.b and c_most c.op c.c and d_most c.op c.d

pub call_most : (c : Call) → length (call_words c) ≤ widest_call
unfolding call_words
call_most c = (operation_most c.op and word 8 (ascii " caller ") (omega arith) and number c.caller and fields_most c).bound

value_most : (place : Bool) (value : ℕ) → Most 11 (value_words place value)
unfolding value_words
value_most place value = either place (address_most value) (number value) and word 1 (ascii "\n") (omega arith)

pub answer_most : (place : Bool) (code value : ℕ) → length (answer_words place code value) ≤ widest_answer
unfolding answer_words
answer_most place code value =
    (word 2 (ascii ": ") (omega arith) and name_most code and word 1 (ascii " ") (omega arith) and value_most place value).bound
