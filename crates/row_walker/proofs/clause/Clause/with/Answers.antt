-- The bit of the literal's variable joins one of the masks.
use Rattle.std.proofs.Common.{◌≡◌, ℕ, ◌-◌, ◌*◌, ◌%◌, ◌^◌, ◌<◌, true, false, ltb, leb, ℤ, pos, nat_abs, sym, ap, ◌∙◌, arith, w32}
use lib.Bits.{bit_or}
use lib.Signed.{lt_z}
use Rattle.std.proofs.lemmas.Nat.{one_shl}
use Rattle.std.proofs.lemmas.Int.{to_z-of_z}
use Rattle.std.proofs.lemmas.Bool.{and_parts, leb-true}
use Rattle.solver.specs.Rows.{named}
use Rattle.row_walker.specs.declared.clause.Clause.{Clause}
use Rattle.row_walker.specs.Masks.{clause_true, within}
use Rattle.row_walker.proofs.Clauses.{positive_inside, negative_inside, positive_says, negative_says}
use Rattle.row_walker.proofs.clause.Clause.with.Goals as goal

-- the shift gives the bit of the variable
shifted : (x : ℤ) (a : ℕ) → a ≡ nat_abs x → named 32 x ≡ true → (1 * 2 ^ (a - 1)) % 4294967296 ≡ 2 ^ (nat_abs x - 1)
shifted x a e k =
    let high = leb-true (nat_abs x) 32 (and_parts (ltb 0 (nat_abs x)) (leb (nat_abs x) 32) k).1 in
    let small : a - 1 < 32 = omega arith in
    one_shl (a - 1) 32 small ∙ ap (λ n. 2 ^ (n - 1)) e

pub returns-then-literal-lt0 : goal.returns-then-literal-lt0
returns-then-literal-lt0 c =
    let x = c.args.literal in
    let k = c.args.self in
    let same = to_z-of_z w32 x c.ranges.literal in
    let bit = shifted x c.unsigned_abs.result (c.unsigned_abs.ensures.value ∙ ap nat_abs same) c.requires in
    let sign : lt_z x (pos 0) ≡ true = sym (ap (λ y. lt_z y (pos 0)) same) ∙ c.if-literal-lt0.true in
    let clause : ℕ → Clause = λ b. record { positive = k.positive; negative = bit_or k.negative b } in
    record {
      inside = λ vars known h. ap (λ b. within vars (clause b)) bit ∙ negative_inside k x vars known h;
      says = λ row. ap (λ b. clause_true row (clause b)) bit ∙ negative_says k x c.requires sign row;
    }

pub returns-else-literal-lt0 : goal.returns-else-literal-lt0
returns-else-literal-lt0 c =
    let x = c.args.literal in
    let k = c.args.self in
    let same = to_z-of_z w32 x c.ranges.literal in
    let bit = shifted x c.unsigned_abs.result (c.unsigned_abs.ensures.value ∙ ap nat_abs same) c.requires in
    let sign : lt_z x (pos 0) ≡ false = sym (ap (λ y. lt_z y (pos 0)) same) ∙ c.if-literal-lt0.false in
    let clause : ℕ → Clause = λ b. record { positive = bit_or k.positive b; negative = k.negative } in
    record {
      inside = λ vars known h. ap (λ b. within vars (clause b)) bit ∙ positive_inside k x vars known h;
      says = λ row. ap (λ b. clause_true row (clause b)) bit ∙ positive_says k x c.requires sign row;
    }
