use Rattle.std.proofs.Common.{◌≡◌, ℕ, ◌/◌, ◌%◌, ◌^◌, ◌<◌, ◌≤◌, Bool, false, eqb, List, length, get_or, Some, None, Option, sym, ap, ◌∙◌, Bor, MatchOption, rules}
use lib.Bits.{bit_and}
use Rattle.test_format.specs.Packing.{unpack}
use Rattle.test_format.proofs.BitAt.{bit_in, bit_past}
use Rattle.testlog.proofs.bits.bit_at.Goals as goal

told : (g : List ℕ) (i : ℕ) (found : Option (Bor ℕ)) (b : Bool) (P : Bor ℕ → Type 0) → MatchOption found (length g ≤ i / 8) (λ x. (i / 8 < length g) × ((d : ℕ) → x.now ≡ get_or g (i / 8) d))
    → MatchOption found (b ≡ false) P → ((x : Bor ℕ) → P x → b ≡ eqb (bit_and (x.now / 2 ^ (i % 8)) 1) 1) → b ≡ get_or (unpack g) i false
told g i None b P h e f = e ∙ sym (bit_past g i h)
told g i (Some x) b P h e f = f x e ∙ ap (λ n. eqb (bit_and (n / 2 ^ (i % 8)) 1) 1) (h.1 0) ∙ sym (bit_in g i h.0)

pub returns : goal.returns
returns c = told c.args.bytes.now c.args.i c.get.result c.is_some_and.result _ c.get.ensures.lookup.3 c.is_some_and.ensures (λ x p. search rules)
