-- Bytes that are taken are the record of the test that they give.
use Rattle.std.proofs.Common.{◌≡◌, ℕ, ◌≤◌, Bool, true, false, ◌&&◌, eqb, List, ◌++◌, map, length, take, drop, is_some, Ok, Result, sym, refl, ap, ◌∙◌, subst, arith, length-drop}
use Rattle.std.proofs.lemmas.List.{length-take-le}
use Rattle.std.proofs.lemmas.Bool.{and_parts, eqb-true}
use Rattle.refusal.specs.declared.Refusal.{Refusal}
use Rattle.refusal.specs.Asking.{numbered, ask}
use Rattle.std.specs.List.{list_all}
use Rattle.circuit.specs.Tests.{Test, FitsTest}
use Rattle.test_format.specs.Packing.{unpack, bytes_for, pack, is_byte}
use Rattle.test_format.specs.Records.{measured, written, map_of, ones, record_length, map_group, input_group, value_group, clear, all_clear, filled, given}
use Rattle.test_format.specs.Law.{TakenIsWritten}
use Rattle.test_format.proofs.Packed.{length_unpack, length_front, clear_is_packed}
use Rattle.test_format.proofs.Marked.{marks_filled, length_filled, measured_filled}
use Rattle.test_format.proofs.Grouped.{front_bits, all_take, all_drop, groups_joined}

pub ask_taken : {X : Type 0} (q : ℕ) (b : Bool) (r : Result X Refusal) (x : X) → ask (numbered q) b r ≡ Ok x → (b ≡ true) × (r ≡ Ok x)
ask_taken q true r x e = (refl, e)
ask_taken q false r x e = let z : ◌≡◌ {A = ℕ} 0 1 = cc in absurd (omega arith)

-- ── bytes of the right length ──
module _ (I O : ℕ) (bytes : List ℕ) (long : length bytes ≡ record_length I O bytes) where
  length_map_group : length (map_group O bytes) ≡ bytes_for O
  length_map_group = length-take-le (bytes_for O) bytes (omega arith)

  length_input_group : length (input_group I O bytes) ≡ bytes_for I
  length_input_group = length-take-le (bytes_for I) (drop (bytes_for O) bytes) (omega (arith, length-drop (bytes_for O) bytes))

  length_value_group : length (value_group I O bytes) ≡ bytes_for (ones (map_of O bytes))
  length_value_group = length-drop (bytes_for I) (drop (bytes_for O) bytes) ∙ omega (arith, length-drop (bytes_for O) bytes)

  map_in_group : map_of O bytes ≡ take O (unpack (map_group O bytes))
  map_in_group =
      ap (λ (l : List ℕ). take O (unpack l)) (sym (groups_joined I O bytes))
      ∙ front_bits O (map_group O bytes) (input_group I O bytes ++ value_group I O bytes) (omega (arith, length_map_group))

  length_map_of : length (map_of O bytes) ≡ O
  length_map_of = ap length map_in_group ∙ length_front O (map_group O bytes) length_map_group

  pub given_fits : (length (given I O bytes).inputs ≡ I) × (length (given I O bytes).outputs ≡ O)
  given_fits = (length_front I (input_group I O bytes) length_input_group, length_filled (map_of O bytes) (unpack (value_group I O bytes)) ∙ length_map_of)

  pub given_written : list_all is_byte bytes ≡ true → all_clear I O bytes ≡ true → bytes ≡ written (given I O bytes)
  given_written b z =
      let ms = map_of O bytes in
      let mg = map_group O bytes in
      let ig = input_group I O bytes in
      let vg = value_group I O bytes in
      let p = and_parts (clear O mg) (clear I ig && clear (ones ms) vg) z in
      let q = and_parts (clear I ig) (clear (ones ms) vg) p.1 in
      let behind = all_drop is_byte (bytes_for O) bytes b in
      let map-packed : mg ≡ pack (map is_some (filled ms (unpack vg))) =
      clear_is_packed O mg (all_take is_byte (bytes_for O) bytes b) length_map_group p.0 ∙ ap pack (sym map_in_group ∙ sym (marks_filled ms (unpack vg))) in
      let inputs-packed : ig ≡ pack (take I (unpack ig)) = clear_is_packed I ig (all_take is_byte (bytes_for I) (drop (bytes_for O) bytes) behind) length_input_group q.0 in
      let few : ones ms ≤ length (unpack vg) = omega (arith, length_unpack vg, length_value_group) in
      let values-packed : vg ≡ pack (measured (filled ms (unpack vg))) =
      clear_is_packed (ones ms) vg (all_drop is_byte (bytes_for I) (drop (bytes_for O) bytes) behind) length_value_group q.1 ∙ ap pack (sym (measured_filled ms (unpack vg) few)) in
      sym (groups_joined I O bytes)
      ∙ ap (λ (l : List ℕ). l ++ (ig ++ vg)) map-packed
      ∙ ap (λ (l : List ℕ). pack (map is_some (filled ms (unpack vg))) ++ (l ++ vg)) inputs-packed
      ∙ ap (λ (l : List ℕ). pack (map is_some (filled ms (unpack vg))) ++ (pack (take I (unpack ig)) ++ l)) values-packed

pub taken_is_written : TakenIsWritten
taken_is_written c bytes t b e =
    let I = c.inputs in
    let O = length c.outputs in
    let p = ask_taken 12 (eqb (length bytes) (record_length I O bytes)) (ask (numbered 13) (all_clear I O bytes) (Ok (given I O bytes))) t e in
    let q = ask_taken 13 (all_clear I O bytes) (Ok (given I O bytes)) t p.1 in
    let long = eqb-true (length bytes) (record_length I O bytes) p.0 in
    let same : given I O bytes ≡ t = cc q.1 in
    subst (λ (u : Test). FitsTest c u × (bytes ≡ written u)) same
    (record { inputs = (given_fits I O bytes long).0; outputs = (given_fits I O bytes long).1 }, given_written I O bytes long b q.0)
