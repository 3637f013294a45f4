-- The pieces of a log are cut from it, in the one way there is; so records end to end are cut into the same records.
use Rattle.std.proofs.Common.{◌≡◌, ℕ, zero, suc, ◌+◌, ◌<◌, ◌≤◌, ◌⊎◌, List, [], ◌∷◌, ◌++◌, map, length, get_or, sym, refl, ap, ◌∙◌, subst, inl, inr, arith}
use Rattle.std.specs.List.{flat_map, AllByRecursion}
use Rattle.std.proofs.lemmas.List.{length-append, append-nil}
use Rattle.circuit.specs.Circuits.{Circuit}
use Rattle.circuit.specs.Tests.{Test, FitsTest}
use Rattle.test_format.specs.Records.{written, record_length}
use Rattle.test_format.specs.Logs.{required, first_record, after_first, pieces_in, pieces}
use Rattle.test_format.specs.Law.{HasSignals, Cut, LogIsCut, LogReadsBack}
use Rattle.test_format.proofs.Cutting.{first_cut_off, required_first, required_some, first_is}
use Rattle.test_format.proofs.ReadBack.{marks, required_written, marks_fit}

pub none_cut : (k : ℕ) (c : Circuit) → pieces_in k c [] ≡ []
unfolding pieces_in
none_cut zero c = refl
none_cut (suc k) c = refl

-- ── one piece before others ──
cut_more : (c : Circuit) (log p rest : List ℕ) (ps : List (List ℕ)) → p ++ rest ≡ log → 0 < length p → (0 < length ps → length p ≡ required c p) → (HasSignals c → length p ≤ required c p) → Cut c rest ps → Cut c log (p ∷ ps)
cut_more c log p rest ps e some exact short cut = record {
  none_lost = ap (λ (l : List ℕ). p ++ l) cut.none_lost ∙ e;
  none_empty = λ i. elim i as (λ i. i < suc (length ps) → 0 < length (get_or (p ∷ ps) i [])) [ zero ↦ λ h. some | suc j ↦ λ h. cut.none_empty j (omega arith) ];
  whole = λ i. elim i as (λ i. i + 1 < suc (length ps) → length (get_or (p ∷ ps) i []) ≡ required c (get_or (p ∷ ps) i [])) [ zero ↦ λ h. exact (omega arith) | suc j ↦ λ h. cut.whole j (omega arith) ];
  none_longer = λ sig i. elim i as (λ i. i < suc (length ps) → length (get_or (p ∷ ps) i []) ≤ required c (get_or (p ∷ ps) i [])) [ zero ↦ λ h. short sig | suc j ↦ λ h. cut.none_longer sig j (omega arith) ];
}

cut_none : (c : Circuit) → Cut c [] []
cut_none c = record { none_lost = refl; none_empty = λ i h. absurd (omega arith); whole = λ i h. absurd (omega arith); none_longer = λ sig i h. absurd (omega arith) }

-- pieces are cut from what has bytes
from_some : (k : ℕ) (c : Circuit) (log : List ℕ) → 0 < length (pieces_in k c log) → 0 < length log
from_some k c [] h = absurd (omega (arith, ap length (none_cut k c)))
from_some k c (b ∷ log) h = omega arith

pieces_cut : (k : ℕ) (c : Circuit) (log : List ℕ) → length log ≤ k → Cut c log (pieces_in k c log)
unfolding pieces_in
pieces_cut zero c [] h = cut_none c
pieces_cut zero c (b ∷ log) h = absurd (omega arith)
pieces_cut (suc k) c [] h = cut_none c
pieces_cut (suc k) c (b ∷ log) h =
    let off = first_cut_off c (b ∷ log) (omega arith) in
    let rest = after_first c (b ∷ log) in
    let same = required_first c (b ∷ log) (first_record c (b ∷ log)) rest off in
    let less = off.shorter in
    cut_more c (b ∷ log) (first_record c (b ∷ log)) rest (pieces_in k c rest) off.joined off.some
    (λ more. off.exact (from_some k c rest more) ∙ sym same)
    (λ sig. let s = off.short (required_some c (b ∷ log) sig) in omega arith)
    (pieces_cut k c rest (omega arith))

-- ── there is no other way to cut ──
cut_behind : (c : Circuit) (log p : List ℕ) (ps : List (List ℕ)) → Cut c log (p ∷ ps) → Cut c (flat_map (λ q. q) ps) ps
cut_behind c log p ps cut = record {
  none_lost = refl;
  none_empty = λ i h. cut.none_empty (suc i) (omega arith);
  whole = λ i h. cut.whole (suc i) (omega arith);
  none_longer = λ sig i h. cut.none_longer sig (suc i) (omega arith);
}

first_fits : (c : Circuit) (log p : List ℕ) (ps : List (List ℕ)) → HasSignals c → Cut c log (p ∷ ps) → (length p ≡ required c p) ⊎ ((flat_map (λ q. q) ps ≡ []) × (length p ≤ required c p))
first_fits c log p [] sig cut = inr (refl, cut.none_longer sig zero (omega arith))
first_fits c log p (q ∷ ps) sig cut = inl (cut.whole zero (omega arith))

cut_once : (k : ℕ) (c : Circuit) (log : List ℕ) (ps : List (List ℕ)) → HasSignals c → length log ≤ k → Cut c log ps → ps ≡ pieces_in k c log
unfolding pieces_in
cut_once k c log [] sig h cut = sym (ap (pieces_in k c) (sym cut.none_lost) ∙ none_cut k c)
cut_once k c log ([] ∷ ps) sig h cut = absurd (omega (arith, cut.none_empty zero (omega arith)))
cut_once zero c log ((b ∷ p) ∷ ps) sig h cut = absurd (omega (arith, ap length cut.none_lost))
cut_once (suc k) c log ((b ∷ p) ∷ ps) sig h cut =
    let rest = flat_map (λ q. q) ps in
    let first = first_is c (b ∷ p) rest sig (first_fits c log (b ∷ p) ps sig cut) in
    let few : length rest ≤ k = omega (arith, ap length cut.none_lost, length-append p rest) in
    ap (λ (l : List (List ℕ)). (b ∷ p) ∷ l) (cut_once k c rest ps sig few (cut_behind c log (b ∷ p) ps cut))
    ∙ ap (λ (l : List ℕ). (b ∷ p) ∷ pieces_in k c l) (sym first.1)
    ∙ ap (λ (l : List ℕ). l ∷ pieces_in k c (after_first c ((b ∷ p) ++ rest))) (sym first.0)
    ∙ ap (pieces_in (suc k) c) cut.none_lost

pub log_is_cut : LogIsCut
log_is_cut c log = (pieces_cut (length log) c log (omega arith), λ ps sig cut. cut_once (length log) c log ps sig (omega arith) cut)

-- ── records end to end ──
pub own_length : (c : Circuit) (t : Test) → FitsTest c t → length (written t) ≡ required c (written t)
own_length c t fits =
    sym (required_written t [])
    ∙ ap (record_length (length t.inputs) (length (marks t))) (append-nil (written t))
    ∙ ap (λ O. record_length (length t.inputs) O (written t)) (marks_fit c t fits)
    ∙ ap (λ I. record_length I (length c.outputs) (written t)) fits.inputs

records_cut : (c : Circuit) (ts : List Test) → HasSignals c → AllByRecursion (FitsTest c) ts → Cut c (flat_map written ts) (map written ts)
records_cut c [] sig fit = cut_none c
records_cut c (t ∷ ts) sig fit =
    let own = own_length c t fit.0 in
    let some = required_some c (written t) sig in
    cut_more c (written t ++ flat_map written ts) (written t) (flat_map written ts) (map written ts) refl (omega arith) (λ _. own) (λ _. omega arith) (records_cut c ts sig fit.1)

pub log_reads_back : LogReadsBack
log_reads_back c ts sig fit = sym ((log_is_cut c (flat_map written ts)).1 (map written ts) sig (records_cut c ts sig fit))

-- ── the pieces of a log are the first, and those of what follows ──
more_room : (j k : ℕ) (c : Circuit) (log : List ℕ) → length log ≤ j → length log ≤ k → pieces_in j c log ≡ pieces_in k c log
unfolding pieces_in
more_room j k c [] h l = none_cut j c ∙ sym (none_cut k c)
more_room zero k c (b ∷ log) h l = absurd (omega arith)
more_room (suc j) zero c (b ∷ log) h l = absurd (omega arith)
more_room (suc j) (suc k) c (b ∷ log) h l =
    let less = (first_cut_off c (b ∷ log) (omega arith)).shorter in
    ap (λ (ps : List (List ℕ)). first_record c (b ∷ log) ∷ ps) (more_room j k c (after_first c (b ∷ log)) (omega arith) (omega arith))

pub first_then_others : (c : Circuit) (log : List ℕ) → 0 < length log → pieces c log ≡ first_record c log ∷ pieces c (after_first c log)
unfolding pieces_in
first_then_others c [] h = absurd (omega arith)
first_then_others c (b ∷ log) h =
    let rest = after_first c (b ∷ log) in
    let less = (first_cut_off c (b ∷ log) h).shorter in
    ap (λ (ps : List (List ℕ)). first_record c (b ∷ log) ∷ ps) (more_room (length log) (length rest) c rest (omega arith) (omega arith))

-- ── what a first piece and the rest of a log are known by ──
pub rest_shorter : (c : Circuit) (log rest : List ℕ) → rest ≡ after_first c log → 0 < length log → length rest < length log
rest_shorter c log rest e h = subst (λ (r : List ℕ). length r < length log) (sym e) (first_cut_off c log h).shorter

pub cut_pieces : (c : Circuit) (log p rest : List ℕ) → p ≡ first_record c log → rest ≡ after_first c log → 0 < length log → pieces c log ≡ p ∷ pieces c rest
cut_pieces c log p rest e f h = first_then_others c log h ∙ ap (λ (q : List ℕ). q ∷ pieces c (after_first c log)) (sym e) ∙ ap (λ (r : List ℕ). p ∷ pieces c r) (sym f)
