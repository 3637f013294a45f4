-- Outputs filled in one after another, as a map marks them.
use Rattle.std.proofs.Common.{◌≡◌, ℕ, ◌+◌, ◌<◌, ◌≤◌, Bool, true, false, List, [], ◌∷◌, ◌++◌, length, get_or, drop, Some, None, Option, sym, ap, ◌∙◌, add-zero}
use Rattle.std.proofs.lemmas.List.{append_assoc, at_drop_more, at_drop_all, get_or-drop, drop-drop, append-nil}
use Rattle.test_format.specs.Records.{filled}

pub filled_marked : (ms vs : List Bool) (i next : ℕ) (os : List (Option Bool)) → i < length ms → get_or ms i false ≡ true
    → (os ++ Some (get_or vs next false) ∷ []) ++ filled (drop (i + 1) ms) (drop (next + 1) vs) ≡ os ++ filled (drop i ms) (drop next vs)
unfolding filled
filled_marked ms vs i next os h m =
    let w = drop next vs in
    let behind = drop (i + 1) ms in
    let value = Some (get_or vs next false) in
    let here : filled (drop i ms) w ≡ value ∷ filled behind (drop (next + 1) vs) =
    at_drop_more (λ (s : List Bool). filled s w) ms i false h
    ∙ ap (λ b. filled (b ∷ behind) w) m
    ∙ ap (λ b. Some b ∷ filled behind (drop 1 w)) (get_or-drop next vs 0 false ∙ ap (λ k. get_or vs k false) (add-zero next))
    ∙ ap (λ (s : List Bool). value ∷ filled behind s) (drop-drop 1 next vs) in
    append_assoc os (value ∷ []) (filled behind (drop (next + 1) vs)) ∙ ap (λ (s : List (Option Bool)). os ++ s) (sym here)

pub filled_unmarked : (ms w : List Bool) (i : ℕ) (os : List (Option Bool)) → i < length ms → get_or ms i false ≡ false
    → (os ++ None ∷ []) ++ filled (drop (i + 1) ms) w ≡ os ++ filled (drop i ms) w
unfolding filled
filled_unmarked ms w i os h m =
    let behind = drop (i + 1) ms in
    let here : filled (drop i ms) w ≡ None ∷ filled behind w = at_drop_more (λ (s : List Bool). filled s w) ms i false h ∙ ap (λ b. filled (b ∷ behind) w) m in
    append_assoc os (None ∷ []) (filled behind w) ∙ ap (λ (s : List (Option Bool)). os ++ s) (sym here)

pub filled_all : (ms w : List Bool) (i : ℕ) (os : List (Option Bool)) → length ms ≤ i → os ++ filled (drop i ms) w ≡ os
unfolding filled
filled_all ms w i os h = ap (λ (s : List (Option Bool)). os ++ s) (at_drop_all (λ (s : List Bool). filled s w) ms i h) ∙ append-nil os
