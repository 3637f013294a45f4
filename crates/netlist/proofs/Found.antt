-- Names found in a table: the name at place i has number i + 1.
use Rattle.std.proofs.Common.{◌≡◌, ℕ, suc, ◌+◌, ◌<◌, Bool, cond, List, [], ◌∷◌, ◌++◌, map, length, get_or, Some, Option, sym, refl, ap, ◌∙◌}
use Rattle.std.specs.Option.{option_map}
use Rattle.std.specs.List.{position_from}
use Rattle.std.proofs.lemmas.Option.{slice_get-map, slice_get-get_or}
use Rattle.netlist_text.proofs.Positions.{position_from_next}
use Rattle.circuit.specs.declared.gate.Signal.{Signal}
use Rattle.netlist_text.specs.Netlists.{same_name, find}
use Rattle.scanner.specs.declared.name.Name.{Name as HeldName}
use Rattle.scanner.specs.Named.{name_of}
use Rattle.netlist.specs.Held.{name_at}

position_from_map : {X Y : Type 0} (p : Y → Bool) (f : X → Y) (k : ℕ) (xs : List X) → position_from p k (map f xs) ≡ position_from (λ x. p (f x)) k xs
position_from_map p f k [] = refl
position_from_map p f k (x ∷ xs) = ap (cond (p (f x)) (Some k)) (position_from_map p f (k + 1) xs)

-- the number of a name is one more than its place
pub number_found : (xs : List HeldName) (w : List ℕ) (o : Option ℕ) → o ≡ position_from (λ x. same_name (name_of x) w) 0 xs → option_map (λ i. i + 1) o ≡ find 1 (map name_of xs) w
number_found xs w o e = ap (option_map (λ i. i + 1)) e ∙ sym (position_from_map (λ x. same_name x w) name_of 1 xs ∙ position_from_next (λ x. same_name (name_of x) w) 0 xs)

-- ── the signals of names, after those that are found ──
abbrev pub joined_after : List Signal → Option (List Signal) → Option (List Signal)
joined_after found o = option_map (λ ss. found ++ ss) o

-- ── the name of a number ──
pub name_here : (xs : List HeldName) (number k : ℕ) (x : HeldName) → number ≡ suc k → k < length xs → x ≡ get_or xs k x → Some (name_of x) ≡ name_at (map name_of xs) number
name_here xs number k x e h is =
    ap (λ y. Some (name_of y)) is
    ∙ ap (option_map name_of) (sym (slice_get-get_or xs k x h))
    ∙ sym (slice_get-map name_of xs k)
    ∙ ap (name_at (map name_of xs)) (sym e)
