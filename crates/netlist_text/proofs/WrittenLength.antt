-- How many bytes written statements take.
use Rattle.std.proofs.Common.{◌≡◌, ℕ, suc, ◌*◌, ◌≤◌, Bool, true, not, leb, List, [], ◌∷◌, ◌++◌, length, codes, sym, refl, ap, ◌∙◌, mul-suc, arith}
use Rattle.std.proofs.lemmas.List.{append_assoc, length-append}
use Rattle.std.proofs.lemmas.Bool.{both_ways, and_parts, leb-true, le-leb}
use Rattle.circuit.specs.declared.kind.Kind.{Kind}
use Rattle.circuit.specs.declared.kind.Kind.TheVariants.{And, Or, Nand, Nor, Xor, Xnor, Not}
use Rattle.std.specs.List.{list_all}
use Rattle.netlist_text.specs.Statements.{Name, Statement, input, output, gate, none}
use Rattle.netlist_text.specs.Law.{good_name}
use Rattle.netlist_text.specs.Written.{kind_word, listed, written, text_of}
use Rattle.netlist_text.proofs.WrittenWords.{good_name_lem}

-- whether a line, with the byte that ends it, has at most so many bytes
abbrev pub within : ℕ → Statement → Bool
within most s = leb (suc (length (written s))) most

-- ── a line ──
name_length : (n : Name) → good_name n ≡ true → length n ≤ 16
name_length n g = leb-true (length n) 16 (good_name_lem n g).short

kind_length : (k : Kind) → length (kind_word k) ≤ 4
kind_length And = omega arith
kind_length Or = omega arith
kind_length Nand = omega arith
kind_length Nor = omega arith
kind_length Xor = omega arith
kind_length Xnor = omega arith
kind_length Not = omega arith

listed_length : (ns : List Name) → not (none ns) ≡ true → list_all good_name ns ≡ true → length (listed ns) ≤ 18 * length ns
listed_length [] e g = absurd (both_ways true (sym e) refl)
listed_length (n ∷ []) e g = omega (arith, name_length n (and_parts (good_name n) true g).0, length-append n (codes ")"))
listed_length (n ∷ m ∷ ns) e g =
    let p = and_parts (good_name n) (list_all good_name (m ∷ ns)) g in
    omega (arith, name_length n p.0, length-append n (codes ", " ++ listed (m ∷ ns)), listed_length (m ∷ ns) refl p.1)

pub input_within : (n : Name) → good_name n ≡ true → within 25 (input n) ≡ true
input_within n g = le-leb (suc (length (written (input n)))) 25 (omega (arith, name_length n g, length-append n (codes ")")))

pub output_within : (n : Name) → good_name n ≡ true → within 25 (output n) ≡ true
output_within n g = le-leb (suc (length (written (output n)))) 25 (omega (arith, name_length n g, length-append n (codes ")")))

pub gate_within : (n : Name) (k : Kind) (ns : List Name) → good_name n ≡ true → not (none ns) ≡ true → list_all good_name ns ≡ true → length ns ≤ 8 → within 169 (gate n k ns) ≡ true
gate_within n k ns g e h few =
    le-leb (suc (length (written (gate n k ns)))) 169
    (omega (arith, name_length n g, length-append n (codes " = " ++ (kind_word k ++ (codes "(" ++ listed ns))), kind_length k, length-append (kind_word k) (codes "(" ++ listed ns), listed_length ns e h))

-- ── a text ──
pub text_append : (ss ts : List Statement) → text_of (ss ++ ts) ≡ text_of ss ++ text_of ts
text_append [] ts = refl
text_append (s ∷ ss) ts = ap (λ x. written s ++ 10 ∷ x) (text_append ss ts) ∙ sym (append_assoc (written s) (10 ∷ text_of ss) (text_of ts))

pub text_length : (most : ℕ) (ss : List Statement) → list_all (within most) ss ≡ true → length (text_of ss) ≤ most * length ss
text_length most [] e = omega arith
text_length most (s ∷ ss) e =
    let p = and_parts (within most s) (list_all (within most) ss) e in
    omega (arith, leb-true (suc (length (written s))) most p.0, text_length most ss p.1, length-append (written s) (10 ∷ text_of ss), mul-suc most (length ss))
