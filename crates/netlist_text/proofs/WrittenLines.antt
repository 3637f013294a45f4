-- A text of writable statements means what admitting them, one after another, gives.
--   admitted_all   a draft after these statements, whose lines are numbered from here
use Rattle.std.proofs.Common.{◌≡◌, ℕ, ◌+◌, true, false, cond, not, ◌||◌, eqb, List, [], ◌∷◌, ◌++◌, Some, None, Ok, Err, codes, Result, refl, ap, ◌∙◌, ⊎_elim}
use Rattle.std.proofs.lemmas.Bool.{cond-false, cases_Bool, both_ways, eqb-true, and_parts, or_left}
use Rattle.refusal.specs.declared.Refusal.{Refusal}
use Rattle.circuit.specs.declared.kind.Kind.{Kind}
use Rattle.circuit.specs.declared.kind.Kind.TheVariants.{And, Or, Nand, Nor, Xor, Xnor, Not}
use Rattle.std.specs.List.{list_all, onto_first}
use Rattle.circuit.proofs.Tested.{all_weaker}
use Rattle.netlist_text.specs.Words.{name_byte, sign_byte, line_byte, stray, lines, skipped}
use Rattle.netlist_text.specs.Statements.{Name, Statement, input, output, gate, none}
use Rattle.netlist_text.specs.Netlists.{Draft}
use Rattle.netlist_text.specs.Meaning.{admitted, on_line, formed, clean, read_line, and_then, finished, read_lines}
use Rattle.netlist_text.specs.Law.{good_name}
use Rattle.netlist_text.specs.Written.{kind_word, listed, written, text_of}
use Rattle.netlist_text.proofs.Tested.{all_append, some_append}
use Rattle.netlist_text.proofs.WrittenWords.{good_name_lem, writable, writable_gate, one_good, statement_written}

abbrev pub admitted_all : ℕ → Draft → List Statement → Result Draft Refusal
admitted_all line d [] = Ok d
admitted_all line d (s ∷ ss) = and_then (on_line line (admitted d line s)) (λ e. admitted_all (line + 1) e ss)

-- ── each byte may stand in a line ──
name_line_bytes : (n : Name) → list_all name_byte n ≡ true → list_all line_byte n ≡ true
name_line_bytes n e = all_weaker name_byte line_byte n (λ b h. or_left (name_byte b) (eqb b 32 || sign_byte b) h) e

listed_line_bytes : (ns : List Name) → list_all good_name ns ≡ true → list_all line_byte (listed ns) ≡ true
listed_line_bytes [] g = refl
listed_line_bytes (n ∷ []) g = all_append line_byte n (codes ")") (name_line_bytes n (good_name_lem n (and_parts (good_name n) true g).0).bytes) refl
listed_line_bytes (n ∷ m ∷ ns) g =
    let p = and_parts (good_name n) (list_all good_name (m ∷ ns)) g in
    all_append line_byte n (codes ", " ++ listed (m ∷ ns)) (name_line_bytes n (good_name_lem n p.0).bytes)
    (all_append line_byte (codes ", ") (listed (m ∷ ns)) refl (listed_line_bytes (m ∷ ns) p.1))

kind_line_bytes : (k : Kind) → list_all line_byte (kind_word k) ≡ true
kind_line_bytes And = refl
kind_line_bytes Or = refl
kind_line_bytes Nand = refl
kind_line_bytes Nor = refl
kind_line_bytes Xor = refl
kind_line_bytes Xnor = refl
kind_line_bytes Not = refl

written_line_bytes : (s : Statement) → writable s ≡ true → list_all line_byte (written s) ≡ true
written_line_bytes (input n) g = all_append line_byte (codes "INPUT(") (listed (n ∷ [])) refl (listed_line_bytes (n ∷ []) (one_good n g))
written_line_bytes (output n) g = all_append line_byte (codes "OUTPUT(") (listed (n ∷ [])) refl (listed_line_bytes (n ∷ []) (one_good n g))
written_line_bytes (gate n k ns) g =
    let h = writable_gate n k ns g in
    all_append line_byte n _ (name_line_bytes n h.name.bytes)
    (all_append line_byte (codes " = ") (kind_word k ++ (codes "(" ++ listed ns)) refl
    (all_append line_byte (kind_word k) (codes "(" ++ listed ns) (kind_line_bytes k)
    (all_append line_byte (codes "(") (listed ns) refl (listed_line_bytes ns h.operands))))

none_stray : (k : ℕ) (l : List ℕ) → list_all line_byte l ≡ true → stray k l ≡ None
none_stray k [] e = refl
none_stray k (b ∷ l) e =
    let p = and_parts (line_byte b) (list_all line_byte l) e in
    ap (λ t. cond (not t) (Some k) (stray (k + 1) l)) p.0 ∙ none_stray (k + 1) l p.1

-- ── a written statement is a line of its own, and is not skipped ──
other_byte : (b x : ℕ) → line_byte x ≡ false → line_byte b ≡ true → eqb b x ≡ false
other_byte b x off h = ⊎_elim (λ t. absurd (both_ways (line_byte b) (ap line_byte (eqb-true b x t) ∙ off) h)) (λ f. f) (cases_Bool (eqb b x))

not_skipped : (l : List ℕ) → none l ≡ false → list_all line_byte l ≡ true → skipped l ≡ false
not_skipped [] e h = absurd (both_ways true e refl)
not_skipped (b ∷ l) e h = other_byte b 35 refl (and_parts (line_byte b) (list_all line_byte l) h).0

some_written : (s : Statement) → writable s ≡ true → none (written s) ≡ false
some_written (input n) g = refl
some_written (output n) g = refl
some_written (gate n k ns) g = some_append n _ (writable_gate n k ns g).name.some

first_line : (l rest : List ℕ) → list_all line_byte l ≡ true → lines (l ++ 10 ∷ rest) ≡ l ∷ lines rest
first_line [] rest e = refl
first_line (b ∷ l) rest e =
    let p = and_parts (line_byte b) (list_all line_byte l) e in
    cond-false (eqb b 10) ([] ∷ lines (l ++ 10 ∷ rest)) (onto_first b (lines (l ++ 10 ∷ rest))) (other_byte b 10 refl p.0)
    ∙ ap (onto_first b) (first_line l rest p.1)

-- ── the lines are admitted ──
read_line_written : (d : Draft) (line : ℕ) (s : Statement) → writable s ≡ true → read_line d line (written s) ≡ on_line line (admitted d line s)
read_line_written d line s g =
    let l = written s in
    let h = written_line_bytes s g in
    cond-false (skipped l) (Ok d) (clean d line l (stray 1 l)) (not_skipped l (some_written s g) h)
    ∙ ap (clean d line l) (none_stray 1 l h)
    ∙ ap (formed d line) (statement_written s g)

pub read_lines_written : (line : ℕ) (d : Draft) (ss : List Statement) → list_all writable ss ≡ true → read_lines line d (lines (text_of ss)) ≡ and_then (admitted_all line d ss) finished
read_lines_written line d [] g = refl
read_lines_written line d (s ∷ ss) g =
    let p = and_parts (writable s) (list_all writable ss) g in
    ap (read_lines line d) (first_line (written s) (text_of ss) (written_line_bytes s p.0))
    ∙ ap (λ r. and_then r (λ e. read_lines (line + 1) e (lines (text_of ss)))) (read_line_written d line s p.0)
    ∙ rest_read (on_line line (admitted d line s)) (λ e. read_lines_written (line + 1) e ss p.1)
  where
    rest_read : (r : Result Draft Refusal) → ((e : Draft) → read_lines (line + 1) e (lines (text_of ss)) ≡ and_then (admitted_all (line + 1) e ss) finished) → and_then r (λ e. read_lines (line + 1) e (lines (text_of ss))) ≡ and_then (and_then r (λ e. admitted_all (line + 1) e ss)) finished
    rest_read (Ok e) h = h e
    rest_read (Err x) h = refl
