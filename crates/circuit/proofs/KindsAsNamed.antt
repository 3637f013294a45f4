-- The kinds compute what their names say.
use Rattle.std.proofs.Common.{◌≡◌, ℕ, zero, suc, ◌+◌, ◌%◌, ◌<◌, Bool, true, false, cond, not, ◌↔◌, List, [], ◌∷◌, length, get_or, sym, refl, ap, ◌∙◌, ⊎_elim, arith}
use Rattle.std.proofs.lemmas.Bool.{and_parts, and_from, or_cases, or_left, or_right, both_ways}
use Rattle.circuit.specs.declared.kind.Kind.TheVariants.{Not}
use Rattle.circuit.specs.Kinds.{gives, odd}
use Rattle.std.specs.List.{list_all, list_any}
use Rattle.circuit.specs.KindLaws.{ones, KindsAsNamed}

every_one : (bs : List Bool) → list_all (λ b. b) bs ≡ true → (i : ℕ) → i < length bs → get_or bs i false ≡ true
every_one [] a i h = absurd (omega arith)
every_one (b ∷ bs) a zero h = (and_parts b (list_all (λ b. b) bs) a).0
every_one (b ∷ bs) a (suc i) h = every_one bs (and_parts b (list_all (λ b. b) bs) a).1 i (omega arith)

all_ones : (bs : List Bool) → ((i : ℕ) → i < length bs → get_or bs i false ≡ true) → list_all (λ b. b) bs ≡ true
all_ones [] f = refl
all_ones (b ∷ bs) f = and_from b (list_all (λ b. b) bs) (f 0 (omega arith)) (all_ones bs (λ i h. f (suc i) (omega arith)))

some_one : (bs : List Bool) → list_any (λ b. b) bs ≡ true → (i : ℕ) × (i < length bs) × (get_or bs i false ≡ true)
some_one [] a = absurd (both_ways false refl a)
some_one (b ∷ bs) a = ⊎_elim (λ h. (0, omega arith, h)) (λ h. let r = some_one bs h in (suc r.0, omega (arith, r.1), r.2)) (or_cases b (list_any (λ b. b) bs) a)

any_one : (bs : List Bool) (i : ℕ) → i < length bs → get_or bs i false ≡ true → list_any (λ b. b) bs ≡ true
any_one [] i h e = absurd (omega arith)
any_one (b ∷ bs) zero h e = or_left b (list_any (λ b. b) bs) e
any_one (b ∷ bs) (suc i) h e = or_right b (list_any (λ b. b) bs) (any_one bs i (omega arith) e)

-- whether the ones are odd in number is the lowest bit of their number
odd_ones : (bs : List Bool) → cond (odd bs) 1 0 ≡ ones bs % 2
odd_ones [] = refl
odd_ones (false ∷ bs) = odd_ones bs ∙ ap (λ n. n % 2) (let e : ones bs ≡ 0 + ones bs = omega arith in e)
odd_ones (true ∷ bs) = turned (odd bs) (ones bs) (odd_ones bs)
  where
    turned : (b : Bool) (n : ℕ) → cond b 1 0 ≡ n % 2 → cond (not b) 1 0 ≡ (1 + n) % 2
    turned true n e = omega arith
    turned false n e = omega arith

one_odd : (b : Bool) → (b ≡ true) ↔ (◌≡◌ {A = ℕ} (cond b 1 0) 1)
one_odd true = (λ _. refl, λ _. refl)
one_odd false = (λ e. absurd (both_ways false refl e), λ e. absurd (omega arith))

pub kinds_as_named : KindsAsNamed
kinds_as_named = record {
  and = λ bs. (every_one bs, all_ones bs);
  or = λ bs. (some_one bs, λ h. any_one bs h.0 h.1 h.2);
  xor = λ bs. (λ e. sym (odd_ones bs) ∙ (one_odd (odd bs)).0 e, λ e. (one_odd (odd bs)).1 (odd_ones bs ∙ e));
  nand = λ bs. refl;
  nor = λ bs. refl;
  xnor = λ bs. refl;
  inverter = λ b. inverted b;
}
  where
    inverted : (b : Bool) → gives Not (b ∷ []) ≡ not b
    inverted true = refl
    inverted false = refl
