-- The words and signs of a statement that is written are that statement's.
--   Good           what makes a name good: some bytes of a name, and few enough
--   writable       whether a statement has good names only and, of a gate, an operand
--   WritableGate   what makes a gate's statement writable
use Rattle.std.proofs.Common.{◌≡◌, ℕ, suc, Bool, true, false, not, ◌&&◌, List, [], ◌∷◌, ◌++◌, length, take, drop, Some, None, codes, sym, refl, ap, ◌∙◌}
use Rattle.std.proofs.lemmas.List.{take_at, drop_at}
use Rattle.std.proofs.lemmas.Bool.{cond-true, both_ways, and_parts, and_from}
use Rattle.circuit.specs.declared.kind.Kind.{Kind}
use Rattle.circuit.specs.declared.kind.Kind.TheVariants.{And, Or, Nand, Nor, Xor, Xnor, Not}
use Rattle.std.specs.List.{list_all}
use Rattle.netlist_text.specs.Words.{name_byte, word, starts_name, lexemes}
use Rattle.netlist_text.specs.Statements.{Name, Statement, input, output, gate, is_name, none, named, names, declared, defined, definition, statement}
use Rattle.netlist_text.specs.Law.{good_name}
use Rattle.netlist_text.specs.Written.{kind_word, listed, written}
use Rattle.netlist_text.proofs.Lexing.{word_len, word_len_on, word_len_off, lexemes_word}

pub record Good (n : Name) : Type 0 where
  pub some : none n ≡ false
  pub bytes : list_all name_byte n ≡ true
  pub short : is_name n ≡ true

pub good_name_lem : (n : Name) → good_name n ≡ true → Good n
good_name_lem [] e = absurd (both_ways true (sym e) refl)
good_name_lem (b ∷ n) e =
    let p = and_parts (list_all name_byte (b ∷ n)) (is_name (b ∷ n)) e in
    record { some = refl; bytes = p.0; short = p.1 }

abbrev pub writable : Statement → Bool
writable (input n) = good_name n
writable (output n) = good_name n
writable (gate n k ns) = good_name n && (not (none ns) && list_all good_name ns)

pub record WritableGate (n : Name) (ns : List Name) : Type 0 where
  pub name : Good n
  pub some : not (none ns) ≡ true
  pub operands : list_all good_name ns ≡ true

pub writable_gate : (n : Name) (k : Kind) (ns : List Name) → writable (gate n k ns) ≡ true → WritableGate n ns
writable_gate n k ns g =
    let p = and_parts (good_name n) (not (none ns) && list_all good_name ns) g in
    let q = and_parts (not (none ns)) (list_all good_name ns) p.1 in
    record { name = good_name_lem n p.0; some = q.0; operands = q.1 }

pub one_good : (n : Name) → good_name n ≡ true → list_all good_name (n ∷ []) ≡ true
one_good n e = and_from (good_name n) true e refl

-- ── a name is one word ──
word_len_none : (rest : List ℕ) → starts_name rest ≡ false → word_len rest ≡ 0
word_len_none [] e = refl
word_len_none (b ∷ bs) e = word_len_off b bs e

word_len_name : (w rest : List ℕ) → list_all name_byte w ≡ true → starts_name rest ≡ false → word_len (w ++ rest) ≡ length w
word_len_name [] rest a s = word_len_none rest s
word_len_name (b ∷ w) rest a s =
    let p = and_parts (name_byte b) (list_all name_byte w) a in
    word_len_on b (w ++ rest) p.0 ∙ ap suc (word_len_name w rest p.1 s)

name_is_word : (w rest : List ℕ) → none w ≡ false → list_all name_byte w ≡ true → starts_name rest ≡ false → lexemes (w ++ rest) ≡ word w ∷ lexemes rest
name_is_word [] rest e a s = absurd (both_ways true e refl)
name_is_word (b ∷ w) rest e a s =
    let p = and_parts (name_byte b) (list_all name_byte w) a in
    lexemes_word b (w ++ rest) p.0
    ∙ ap (λ k. word (take k ((b ∷ w) ++ rest)) ∷ lexemes (drop k ((b ∷ w) ++ rest))) (word_len_name (b ∷ w) rest a s)
    ∙ ap (λ x. word x ∷ lexemes (drop (length (b ∷ w)) ((b ∷ w) ++ rest))) (take_at (b ∷ w) rest (length (b ∷ w)) refl)
    ∙ ap (λ x. word (b ∷ w) ∷ lexemes x) (drop_at (b ∷ w) rest (length (b ∷ w)) refl)

-- ── the forms ──
named_good : (n : Name) (ns : List Name) → is_name n ≡ true → named n (Some ns) ≡ Some (n ∷ ns)
named_good n ns e = cond-true (is_name n) (Some (n ∷ ns)) None e

names_listed : (ns : List Name) → not (none ns) ≡ true → list_all good_name ns ≡ true → names (lexemes (listed ns)) ≡ Some ns
names_listed [] e g = absurd (both_ways true (sym e) refl)
names_listed (n ∷ []) e g =
    let h = good_name_lem n (and_parts (good_name n) true g).0 in
    ap names (name_is_word n (codes ")") h.some h.bytes refl) ∙ named_good n [] h.short
names_listed (n ∷ m ∷ ns) e g =
    let p = and_parts (good_name n) (list_all good_name (m ∷ ns)) g in
    let h = good_name_lem n p.0 in
    ap names (name_is_word n (codes ", " ++ listed (m ∷ ns)) h.some h.bytes refl)
    ∙ ap (named n) (names_listed (m ∷ ns) refl p.1)
    ∙ named_good n (m ∷ ns) h.short

definition_written : (k : Kind) (n : Name) (rest : List ℕ) → definition n (lexemes (kind_word k ++ (codes "(" ++ rest))) ≡ defined n (Some k) (names (lexemes rest))
definition_written And n rest = refl
definition_written Or n rest = refl
definition_written Nand n rest = refl
definition_written Nor n rest = refl
definition_written Xor n rest = refl
definition_written Xnor n rest = refl
definition_written Not n rest = refl

pub statement_written : (s : Statement) → writable s ≡ true → statement (lexemes (written s)) ≡ Some s
statement_written (input n) g = ap (declared (codes "INPUT")) (names_listed (n ∷ []) refl (one_good n g))
statement_written (output n) g = ap (declared (codes "OUTPUT")) (names_listed (n ∷ []) refl (one_good n g))
statement_written (gate n k ns) g =
    let h = writable_gate n k ns g in
    ap statement (name_is_word n (codes " = " ++ (kind_word k ++ (codes "(" ++ listed ns))) h.name.some h.name.bytes refl)
    ∙ definition_written k n (listed ns)
    ∙ ap (defined n (Some k)) (names_listed ns h.some h.operands)
    ∙ cond-true (is_name n) (Some (gate n k ns)) None h.name.short
