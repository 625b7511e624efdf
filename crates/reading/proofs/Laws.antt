-- A read behind the bytes that had come.
use Rattle.std.proofs.Common.{◌≡◌, ℕ, Option, ◌+◌, ◌≤◌, List, ◌++◌, length, take, drop, ap, sym, subst, ◌∙◌, drop_at, length-take-le}
use lib.Seq.{take-add, take-append-le}
use borrow.Rule.Slice.PartMut.{put_mid, take_put}
use Rattle.std.specs.Io.KnownBytes.{Consumes}
use Rattle.std.proofs.KnownBytes.{Consumes-trans}

-- the first i bytes had come, and n more were read into the part of k bytes behind them
pub one_more : (a b c : Option (List ℕ)) (i k n : ℕ) (xs ys : List ℕ) → i ≤ length xs → n ≤ length ys → Consumes a b (take i xs) → Consumes b c (take n ys)
    → Consumes a c (take (i + n) (put_mid i k xs ys))
one_more a b c i k n xs ys within few before read =
    let rest = drop k (drop i xs) in
    let behind : take n (drop i (put_mid i k xs ys)) ≡ take n ys =
    ap (take n) (drop_at (take i xs) (ys ++ rest) i (length-take-le i xs within)) ∙ take-append-le n ys rest few in
    let both : take (i + n) (put_mid i k xs ys) ≡ take i xs ++ take n ys =
    take-add i n (put_mid i k xs ys) ∙ ap (λ l. l ++ take n (drop i (put_mid i k xs ys))) (take_put i k xs ys within) ∙ ap (λ l. take i xs ++ l) behind in
    subst (Consumes a c) (sym both) (Consumes-trans a b c _ _ before read)
