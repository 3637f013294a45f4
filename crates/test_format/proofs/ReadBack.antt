-- The record of a test is taken, and gives the test.
use Rattle.std.proofs.Common.{◌≡◌, ℕ, Bool, true, eqb, List, [], ◌++◌, map, length, take, drop, is_some, Ok, Err, Option, Result, sym, ap, ◌∙◌}
use Rattle.std.proofs.lemmas.List.{length-map, take-append-drop, append-nil}
use Rattle.std.proofs.lemmas.Bool.{and_from, eq-eqb, cond-true}
use Rattle.refusal.specs.declared.Refusal.{Refusal}
use Rattle.refusal.specs.Asking.{numbered, ask}
use Rattle.circuit.specs.Circuits.{Circuit}
use Rattle.circuit.specs.Tests.{Test, FitsTest}
use Rattle.test_format.specs.Packing.{unpack, pack}
use Rattle.test_format.specs.Records.{measured, written, map_of, ones, record_length, map_group, input_group, value_group, clear, all_clear, filled, given}
use Rattle.test_format.specs.Law.{RecordReadsBack}
use Rattle.test_format.proofs.Packed.{take_unpack_pack, unpack_pack_clear}
use Rattle.test_format.proofs.Marked.{ones_marks, filled_measured}
use Rattle.test_format.proofs.Grouped.{map_of_packed, map_group_packed, input_group_packed, value_group_packed, required_packed}

pub ask_so : {X : Type 0} (q : ℕ) (b : Bool) (r : Result X Refusal) → b ≡ true → ask (numbered q) b r ≡ r
ask_so q b r h = cond-true b r (Err (numbered q)) h

-- ── the record of a test, at its own numbers of inputs and outputs ──
abbrev pub marks : Test → List Bool
marks t = map is_some t.outputs

abbrev decoded_at : ℕ → ℕ → List ℕ → Result Test Refusal
decoded_at I O bytes = ask (numbered 12) (eqb (length bytes) (record_length I O bytes)) (ask (numbered 13) (all_clear I O bytes) (Ok (given I O bytes)))

pub written_clear : (t : Test) → all_clear (length t.inputs) (length (marks t)) (written t) ≡ true
written_clear t =
    let ms = marks t in
    let is = t.inputs in
    let vs = measured t.outputs in
    let rest = pack is ++ pack vs in
    let count : ones (map_of (length ms) (written t)) ≡ length vs = ap ones (map_of_packed ms rest) ∙ ones_marks t.outputs in
    and_from (clear (length ms) (map_group (length ms) (written t))) _
    (ap (clear (length ms)) (map_group_packed ms rest) ∙ unpack_pack_clear ms)
    (and_from (clear (length is) (input_group (length is) (length ms) (written t))) (clear (ones (map_of (length ms) (written t))) (value_group (length is) (length ms) (written t)))
    (ap (clear (length is)) (input_group_packed ms is (pack vs)) ∙ unpack_pack_clear is)
    (ap (λ n. clear n (value_group (length is) (length ms) (written t))) count ∙ ap (clear (length vs)) (value_group_packed ms is (pack vs)) ∙ unpack_pack_clear vs))

outputs_given : (t : Test) → filled (map_of (length (marks t)) (written t)) (unpack (value_group (length t.inputs) (length (marks t)) (written t))) ≡ t.outputs
outputs_given t =
    let ms = marks t in
    let is = t.inputs in
    let vs = measured t.outputs in
    let u = unpack (pack vs) in
    let apart : u ≡ vs ++ drop (length vs) u = sym (take-append-drop (length vs) u) ∙ ap (λ (l : List Bool). l ++ drop (length vs) u) (take_unpack_pack vs) in
    ap (λ (l : List Bool). filled l (unpack (value_group (length is) (length ms) (written t)))) (map_of_packed ms (pack is ++ pack vs))
    ∙ ap (λ (l : List ℕ). filled ms (unpack l)) (value_group_packed ms is (pack vs))
    ∙ ap (filled ms) apart
    ∙ filled_measured t.outputs (drop (length vs) u)

inputs_given : (t : Test) → take (length t.inputs) (unpack (input_group (length t.inputs) (length (marks t)) (written t))) ≡ t.inputs
inputs_given t = ap (λ (l : List ℕ). take (length t.inputs) (unpack l)) (input_group_packed (marks t) t.inputs (pack (measured t.outputs))) ∙ take_unpack_pack t.inputs

written_given : (t : Test) → given (length t.inputs) (length (marks t)) (written t) ≡ t
written_given t =
    ap (λ (l : List Bool). record { inputs = l; outputs = filled (map_of (length (marks t)) (written t)) (unpack (value_group (length t.inputs) (length (marks t)) (written t))) }) (inputs_given t)
    ∙ ap (λ (l : List (Option Bool)). record { inputs = t.inputs; outputs = l }) (outputs_given t)

pub required_written : (t : Test) (rest : List ℕ) → record_length (length t.inputs) (length (marks t)) (written t ++ rest) ≡ length (written t)
required_written t rest = required_packed (marks t) t.inputs (measured t.outputs) rest (ones_marks t.outputs)

own_record : (t : Test) → decoded_at (length t.inputs) (length (marks t)) (written t) ≡ Ok t
own_record t =
    let long = sym (required_written t []) ∙ ap (record_length (length t.inputs) (length (marks t))) (append-nil (written t)) in
    ask_so 12 _ _ (eq-eqb (length (written t)) (record_length (length t.inputs) (length (marks t)) (written t)) long)
    ∙ ask_so 13 (all_clear (length t.inputs) (length (marks t)) (written t)) (Ok (given (length t.inputs) (length (marks t)) (written t))) (written_clear t)
    ∙ ap Ok (written_given t)

pub marks_fit : (c : Circuit) (t : Test) → FitsTest c t → length (marks t) ≡ length c.outputs
marks_fit c t fits = length-map t.outputs is_some ∙ fits.outputs

pub record_reads_back : RecordReadsBack
record_reads_back c t fits =
    ap (λ I. decoded_at I (length c.outputs) (written t)) (sym fits.inputs)
    ∙ ap (λ O. decoded_at (length t.inputs) O (written t)) (sym (marks_fit c t fits))
    ∙ own_record t
