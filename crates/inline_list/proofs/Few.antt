-- A list has no more values than places, its values are in the first of them, and one more after a push.
use Rattle.std.proofs.Common.{◌≡◌, ℕ, ◌<◌, ◌≤◌, Bool, cond, ltb, List, [], ◌∷◌, ◌++◌, length, get_or, sym, ◌∙◌, arith}
use Rattle.std.proofs.lemmas.List.{length-take-le, get_or-take}
use Rattle.std.proofs.lemmas.Bool.{lt-ltb, cond-true}
use Rattle.inline_list.specs.declared.list.InlineList.{InlineList}
use Rattle.inline_list.specs.Listed.{listed, places_of}

pub listed_few : {T : Type 0} {N : ℕ} (l : InlineList T N) → length (listed l) ≤ N
listed_few l = omega (arith, length-take-le l.count l.places (omega (arith, l.whole, l.few)), l.few)

-- a value is in the place of its number
pub in_its_place : {T : Type 0} {N : ℕ} (l : InlineList T N) (i : ℕ) (d : T) → i < length (listed l) → get_or (places_of l) i d ≡ get_or (listed l) i d
in_its_place l i d h = let n = length-take-le l.count l.places (omega (arith, l.whole, l.few)) in sym (get_or-take l.count l.places i d (omega (arith, n, h)))

-- what a list holds after a push that has room
pub pushed : {T : Type 0} (n : ℕ) (before after : List T) (x : T) (b : Bool) → b ≡ ltb (length before) n → after ≡ cond b (before ++ x ∷ []) before → length before < n → after ≡ before ++ x ∷ []
pushed n before after x b e h l = h ∙ cond-true b (before ++ x ∷ []) before (e ∙ lt-ltb (length before) n l)
