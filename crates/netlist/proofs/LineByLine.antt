-- A text from line to line.
--   parts_left   the parts of a text that is cut at its line ends, of which this is what is left, unless the last was taken
use Rattle.std.proofs.Common.{◌≡◌, ℕ, ◌+◌, ◌≤◌, Bool, true, false, cond, eqb, leb, ◌⊎◌, List, [], ◌∷◌, ◌++◌, length, Ok, Err, Result, is_ok, sym, refl, ap, ◌∙◌, ⊎_elim, inl, inr, arith}
use Rattle.std.specs.List.{slice_split, onto_first, All, IsFirstMatchOrLen}
use Rattle.std.specs.Bool.{MatchBool}
use Rattle.std.proofs.lemmas.Grind.{common_steps}
use Rattle.std.proofs.lemmas.List.Splits.{slice_split_none, slice_split_at}
use Rattle.std.proofs.lemmas.Bool.{cond-true, le-leb, both_ways}
use Rattle.refusal.specs.declared.Refusal.{Refusal}
use Rattle.netlist.specs.declared.fault.LineFault.{LineFault}
use Rattle.netlist.specs.declared.fault.ReadFault.{ReadFault}
use Rattle.netlist.specs.declared.fault.ReadFault.TheVariants.{Line}
use Rattle.std.specs.Result.{MatchResult}
use Rattle.netlist.specs.Faults.{told_on, refusal_of}
use Rattle.netlist_text.specs.Words.{lines}
use Rattle.netlist_text.specs.Netlists.{Draft, blank}
use Rattle.netlist_text.specs.Meaning.{refusal, and_then, read_line, read_lines, meaning}

abbrev pub parts_left : Bool → List ℕ → List (List ℕ)
parts_left done text = cond done [] (slice_split (λ b. eqb b 10) text)

-- ── the parts of a text are its lines, and where its last line has an end, an empty one behind them ──
parts_or_more : (text : List ℕ) → (slice_split (λ b. eqb b 10) text ≡ lines text) ⊎ (slice_split (λ b. eqb b 10) text ≡ lines text ++ [] ∷ [])
parts_or_more [] = inr refl
parts_or_more (b ∷ bs) = by (eqb b 10) (parts_or_more bs)
  where
    onto_more : (ls : List (List ℕ)) → (onto_first b (ls ++ [] ∷ []) ≡ onto_first b ls) ⊎ (onto_first b (ls ++ [] ∷ []) ≡ onto_first b ls ++ [] ∷ [])
    onto_more [] = inl refl
    onto_more (l ∷ ls) = inr refl

    by : (t : Bool) → (slice_split (λ x. eqb x 10) bs ≡ lines bs) ⊎ (slice_split (λ x. eqb x 10) bs ≡ lines bs ++ [] ∷ []) →
        (cond t ([] ∷ slice_split (λ x. eqb x 10) bs) (onto_first b (slice_split (λ x. eqb x 10) bs)) ≡ cond t ([] ∷ lines bs) (onto_first b (lines bs)))
        ⊎ (cond t ([] ∷ slice_split (λ x. eqb x 10) bs) (onto_first b (slice_split (λ x. eqb x 10) bs)) ≡ cond t ([] ∷ lines bs) (onto_first b (lines bs)) ++ [] ∷ [])
    by true h = ⊎_elim (λ e. inl (ap (λ ls. [] ∷ ls) e)) (λ e. inr (ap (λ ls. [] ∷ ls) e)) h
    by false h = ⊎_elim (λ e. inl (ap (onto_first b) e)) (λ e. ⊎_elim (λ f. inl (ap (onto_first b) e ∙ f)) (λ f. inr (ap (onto_first b) e ∙ f)) (onto_more (lines bs))) h

-- an empty line at the end says nothing
read_empty_last : (line : ℕ) (d : Draft) (ls : List (List ℕ)) → read_lines line d (ls ++ [] ∷ []) ≡ read_lines line d ls
read_empty_last line d [] = refl
read_empty_last line d (l ∷ ls) = after (read_line d line l) (λ e. read_empty_last (line + 1) e ls)
  where
    after : (r : Result Draft Refusal) → ((e : Draft) → read_lines (line + 1) e (ls ++ [] ∷ []) ≡ read_lines (line + 1) e ls) → and_then r (λ e. read_lines (line + 1) e (ls ++ [] ∷ [])) ≡ and_then r (λ e. read_lines (line + 1) e ls)
    after (Ok e) h = h e
    after (Err f) h = refl

pub read_parts : (line : ℕ) (d : Draft) (text : List ℕ) → read_lines line d (slice_split (λ b. eqb b 10) text) ≡ read_lines line d (lines text)
read_parts line d text = ⊎_elim (λ e. ap (read_lines line d) e) (λ e. ap (read_lines line d) e ∙ read_empty_last line d (lines text)) (parts_or_more text)

-- ── one part more ──
part_first : (p : ℕ → Bool) (xs x rest : List ℕ) (done : Bool) → MatchBool done (xs ≡ x) ((y : ℕ) × (xs ≡ x ++ (y ∷ rest))) → IsFirstMatchOrLen p xs (length x) → slice_split p xs ≡ x ∷ cond done [] (slice_split p rest)
part_first p xs x rest true e h = ap (slice_split p) e ∙ slice_split_none p x (λ k d l. let a = h.0 k d (omega arith) l in grind (arith, common_steps))
part_first p xs x rest false e h =
    let front : All (λ z. p z ≡ false) x = λ k d l. let a = h.0 k d (omega arith) l in let b = e.1 in grind (arith, common_steps) in
    let hit : p e.0 ≡ true = let b = e.1 in let a = h.1 (grind (arith, common_steps)) e.0 in grind (arith, common_steps) in
    ap (slice_split p) e.1 ∙ slice_split_at p x e.0 rest front hit

pub part_taken : (was done : Bool) (xs x rest : List ℕ) → was ≡ false → MatchBool done (xs ≡ x) ((y : ℕ) × (xs ≡ x ++ (y ∷ rest))) → IsFirstMatchOrLen (λ b. eqb b 10) xs (length x) → parts_left was xs ≡ x ∷ parts_left done rest
part_taken was done xs x rest w e h = ap (λ t. cond t [] (slice_split (λ b. eqb b 10) xs)) w ∙ part_first (λ b. eqb b 10) xs x rest done e h

-- ── the line that a part is ──
module _ (line : ℕ) (d : Draft) (parts more : List (List ℕ)) (l : List ℕ) (first : parts ≡ l ∷ more) where
  pub line_taken : (e : Draft) → read_line d line l ≡ Ok e → read_lines (line + 1) e more ≡ read_lines line d parts
  line_taken e t = sym (ap (read_lines line d) first ∙ ap (λ r. and_then r (λ x. read_lines (line + 1) x more)) t)

  pub line_refused : (f : Refusal) → read_line d line l ≡ Err f → Err f ≡ read_lines line d parts
  line_refused f t = sym (ap (read_lines line d) first ∙ ap (λ r. and_then r (λ x. read_lines (line + 1) x more)) t)

pub told_taken : {X : Type 0} (line : ℕ) (r : Result X LineFault) (e : Draft) (c : Result Draft Refusal) → true ≡ is_ok r → told_on line r e ≡ c → c ≡ Ok e
told_taken line (Ok x) e c o t = sym t
told_taken line (Err f) e c o t = absurd (both_ways true o refl)

pub told_refused : {X : Type 0} (line : ℕ) (r : Result X LineFault) (e : Draft) (c : Result Draft Refusal) (q : ℕ × LineFault) (P : LineFault → Type 0) → MatchResult r (λ x. ◌≡◌ {A = Result X (ℕ × LineFault)} (Err q) (Ok x)) P → ((f : LineFault) → P f → q ≡ (line, f)) → told_on line r e ≡ c → c ≡ Err (refusal_of (Line q.0 q.1))
told_refused line (Ok x) e c q P m h t = absurd (grind arith)
told_refused line (Err f) e c q P m h t = sym t ∙ ap (λ (y : ℕ × LineFault). Err (refusal_of (Line y.0 y.1))) (sym (h f m))

pub short_text : (text : List ℕ) → length text ≤ 60000 → meaning text ≡ read_lines 1 blank (lines text)
short_text text h = cond-true (leb (length text) 60000) (read_lines 1 blank (lines text)) (Err (refusal 2 0 0)) (le-leb (length text) 60000 h)
