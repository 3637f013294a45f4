-- Bits told place by place.
use Rattle.std.proofs.Common.{◌≡◌, ℕ, zero, suc, ◌+◌, ◌-◌, Bool, false, not, cond, ◌&&◌, List, [], ◌∷◌, length, get_or, take, drop, count_by, refl, sym, ap, ◌∙◌, arith}
use Rattle.std.specs.List.{list_all, range_with_len}
use Rattle.std.proofs.lemmas.List.{at_drop_more, at_drop_all}
use Rattle.std.proofs.lemmas.List.Sums.{sum_by-cons}
use Rattle.test_format.specs.Records.{ones}
use Rattle.test_format.proofs.BitAt.{ones_more}

-- whether each of the n bits from i on, the last ones, is 0
pub clear_from : (u : List Bool) (i n : ℕ) → length u - i ≡ n → list_all (λ k. not (get_or u k false)) (range_with_len i n) ≡ list_all not (drop i u)
clear_from u i zero e = sym (at_drop_all (list_all not) u i (omega arith))
clear_from u i (suc n) e = ap (λ b. not (get_or u i false) && b) (clear_from u (i + 1) n (omega arith)) ∙ sym (at_drop_more (list_all not) u i false (omega arith))

-- how many of the first n bits are 1, after those before i
ones_after : (u : List Bool) (i n : ℕ) → ones (take i u) + count_by (λ k. get_or u k false) (range_with_len i n) ≡ ones (take (i + n) u)
ones_after u i zero = let e : i + 0 ≡ i = omega arith in omega (arith, ap (λ k. ones (take k u)) e)
ones_after u i (suc n) =
    let e : i + 1 + n ≡ i + suc n = omega arith in
    let one : count_by (λ k. get_or u k false) (range_with_len i (suc n)) ≡ cond (get_or u i false) 1 0 + count_by (λ k. get_or u k false) (range_with_len (i + 1) n) = sum_by-cons (λ k. cond (get_or u k false) 1 0) i (range_with_len (i + 1) n) in
    omega (arith, one, ones_more u i, ones_after u (i + 1) n, ap (λ k. ones (take k u)) e)

-- how many of the first n bits are 1
pub ones_from : (u : List Bool) (n : ℕ) → count_by (λ k. get_or u k false) (range_with_len 0 n) ≡ ones (take n u)
unfolding ones
ones_from u n =
    let none : ones (take 0 u) ≡ 0 = ap ones (take_none u) in
    let e : 0 + n ≡ n = omega arith in
    omega (arith, none, ones_after u 0 n, ap (λ k. ones (take k u)) e)
  where
    take_none : (l : List Bool) → take 0 l ≡ []
    take_none [] = refl
    take_none (b ∷ l) = refl
