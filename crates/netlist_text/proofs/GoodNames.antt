-- The names in a line's statement are good names.
use Rattle.std.proofs.Common.{◌≡◌, ℕ, Bool, true, false, cond, not, ◌&&◌, eqb, List, [], ◌∷◌, Some, None, codes, Option, sym, refl, ◌∙◌, subst, arith}
use Rattle.std.specs.Str.{bytes_eq}
use Rattle.std.proofs.lemmas.Bool.{cond-true, cond-false, and_parts, and_from}
use Rattle.circuit.specs.declared.kind.Kind.{Kind}
use Rattle.std.specs.List.{list_all}
use Rattle.netlist_text.specs.Words.{name_byte, Lexeme, word, sign, starts_name, in_word, lexeme, lexemes}
use Rattle.netlist_text.specs.Statements.{Name, Statement, input, output, gate, is_name, kind_of, none, named, after, names, bracketed, declared, defined, definition, begun, statement}
use Rattle.netlist_text.specs.Law.{good_name}

-- a word is some letters, digits or underscores
abbrev good_lexeme : Lexeme → Bool
good_lexeme (word w) = not (none w) && list_all name_byte w
good_lexeme (sign s) = true

in_word_good : (b : ℕ) (ts : List Lexeme) → name_byte b ≡ true → list_all good_lexeme ts ≡ true → list_all good_lexeme (in_word b ts) ≡ true
in_word_good b [] h a = refl
in_word_good b (word w ∷ ts) h a =
    let p = and_parts (good_lexeme (word w)) (list_all good_lexeme ts) a in
    and_from (list_all name_byte (b ∷ w)) (list_all good_lexeme ts) (and_from (name_byte b) (list_all name_byte w) h (and_parts (not (none w)) (list_all name_byte w) p.0).1) p.1
in_word_good b (sign s ∷ ts) h a = a

lexeme_good : (b : ℕ) (more : Bool) (ts : List Lexeme) → list_all good_lexeme ts ≡ true → list_all good_lexeme (lexeme b more ts) ≡ true
lexeme_good b more ts a = go (eqb b 32) (name_byte b) refl more
  where
    go : (space letter : Bool) → name_byte b ≡ letter → (m : Bool) → list_all good_lexeme (cond space ts (cond letter (cond m (in_word b ts) (word (b ∷ []) ∷ ts)) (sign b ∷ ts))) ≡ true
    go true letter h m = a
    go false true h true = in_word_good b ts h a
    go false true h false = and_from (list_all name_byte (b ∷ [])) (list_all good_lexeme ts) (and_from (name_byte b) true h refl) a
    go false false h m = a

lexemes_good : (l : List ℕ) → list_all good_lexeme (lexemes l) ≡ true
lexemes_good [] = refl
lexemes_good (b ∷ l) = lexeme_good b (starts_name l) (lexemes l) (lexemes_good l)

word_name : (w : List ℕ) → good_lexeme (word w) ≡ true → is_name w ≡ true → good_name w ≡ true
word_name w h s = let p = and_parts (not (none w)) (list_all name_byte w) h in and_from (not (none w)) (list_all name_byte w && is_name w) p.0 (and_from (list_all name_byte w) (is_name w) p.1 s)

-- ── names in brackets ──
named_some : (w : List ℕ) (o : Option (List Name)) (ns : List Name) → named w o ≡ Some ns → (ms : List Name) × (is_name w ≡ true) × (o ≡ Some ms) × (ns ≡ w ∷ ms)
named_some w None ns e = absurd (grind arith)
named_some w (Some ms) ns e = go (is_name w) refl
  where
    go : (b : Bool) → is_name w ≡ b → (ms' : List Name) × (is_name w ≡ true) × (Some ms ≡ Some ms') × (ns ≡ w ∷ ms')
    go true h = let q : Some (w ∷ ms) ≡ Some ns = sym (cond-true (is_name w) (Some (w ∷ ms)) None h) ∙ e in (ms, h, refl, cc)
    go false h = let q : ◌≡◌ {A = Option (List Name)} None (Some ns) = sym (cond-false (is_name w) (Some (w ∷ ms)) None h) ∙ e in absurd (grind arith)

after_good : (s : ℕ) (last : Bool) (o : Option (List Name)) (ms : List Name) → ((ns : List Name) → o ≡ Some ns → list_all good_name ns ≡ true) → after s last o ≡ Some ms → list_all good_name ms ≡ true
after_good s last o ms f e = go (eqb s 44) (eqb s 41 && last) e
  where
    go : (comma close : Bool) → cond comma o (cond close (Some []) None) ≡ Some ms → list_all good_name ms ≡ true
    go true close q = f ms q
    go false true q = let r : [] ≡ ms = cc in subst (λ (l : List Name). list_all good_name l ≡ true) r refl
    go false false q = absurd (grind arith)

names_good : (ts : List Lexeme) (ns : List Name) → list_all good_lexeme ts ≡ true → names ts ≡ Some ns → list_all good_name ns ≡ true
names_good [] ns a e = absurd (grind arith)
names_good (sign s ∷ ts) ns a e = absurd (grind arith)
names_good (word w ∷ []) ns a e = absurd (grind arith)
names_good (word w ∷ word v ∷ ts) ns a e = absurd (grind arith)
names_good (word w ∷ sign s ∷ ts) ns a e =
    let p = and_parts (good_lexeme (word w)) (list_all good_lexeme (sign s ∷ ts)) a in
    let q = named_some w (after s (none ts) (names ts)) ns e in
    let rest = after_good s (none ts) (names ts) q.0 (λ ms h. names_good ts ms p.1 h) q.2 in
    subst (λ (l : List Name). list_all good_name l ≡ true) (sym q.3) (and_from (good_name w) (list_all good_name q.0) (word_name w p.0 q.1) rest)

bracketed_good : (ts : List Lexeme) (ns : List Name) → list_all good_lexeme ts ≡ true → bracketed ts ≡ Some ns → list_all good_name ns ≡ true
bracketed_good [] ns a e = absurd (grind arith)
bracketed_good (word w ∷ ts) ns a e = absurd (grind arith)
bracketed_good (sign s ∷ ts) ns a e = go (eqb s 40) e
  where
    go : (b : Bool) → cond b (names ts) None ≡ Some ns → list_all good_name ns ≡ true
    go true q = names_good ts ns a q
    go false q = absurd (grind arith)

-- ── statements ──
abbrev pub good_statement : Statement → Bool
good_statement (input n) = good_name n
good_statement (output n) = good_name n
good_statement (gate n k ns) = good_name n && list_all good_name ns

declared_good : (w : List ℕ) (o : Option (List Name)) (f : Statement) → ((ns : List Name) → o ≡ Some ns → list_all good_name ns ≡ true) → declared w o ≡ Some f → good_statement f ≡ true
declared_good w None f h e = absurd (grind arith)
declared_good w (Some []) f h e = absurd (grind arith)
declared_good w (Some (n ∷ [])) f h e = go (bytes_eq w (codes "INPUT")) (bytes_eq w (codes "OUTPUT")) e
  where
    good : good_name n ≡ true
    good = (and_parts (good_name n) true (h (n ∷ []) refl)).0

    go : (a b : Bool) → cond a (Some (input n)) (cond b (Some (output n)) None) ≡ Some f → good_statement f ≡ true
    go true b q = let r : input n ≡ f = cc in subst (λ (x : Statement). good_statement x ≡ true) r good
    go false true q = let r : output n ≡ f = cc in subst (λ (x : Statement). good_statement x ≡ true) r good
    go false false q = absurd (grind arith)
declared_good w (Some (n ∷ m ∷ ns)) f h e = absurd (grind arith)

defined_good : (w : List ℕ) (k : Option Kind) (o : Option (List Name)) (f : Statement) → good_lexeme (word w) ≡ true → ((ns : List Name) → o ≡ Some ns → list_all good_name ns ≡ true) → defined w k o ≡ Some f → good_statement f ≡ true
defined_good w None o f g h e = absurd (grind arith)
defined_good w (Some k) None f g h e = absurd (grind arith)
defined_good w (Some k) (Some ns) f g h e = go (is_name w) refl
  where
    go : (b : Bool) → is_name w ≡ b → good_statement f ≡ true
    go true s =
        let q : Some (gate w k ns) ≡ Some f = sym (cond-true (is_name w) (Some (gate w k ns)) None s) ∙ e in
        let r : gate w k ns ≡ f = cc in
        subst (λ (x : Statement). good_statement x ≡ true) r (and_from (good_name w) (list_all good_name ns) (word_name w g s) (h ns refl))
    go false s = let q : ◌≡◌ {A = Option Statement} None (Some f) = sym (cond-false (is_name w) (Some (gate w k ns)) None s) ∙ e in absurd (grind arith)

begun_good : (w : List ℕ) (ts : List Lexeme) (f : Statement) → good_lexeme (word w) ≡ true → list_all good_lexeme ts ≡ true → begun w ts ≡ Some f → good_statement f ≡ true
begun_good w [] f g a e = absurd (grind arith)
begun_good w (word v ∷ ts) f g a e = absurd (grind arith)
begun_good w (sign s ∷ ts) f g a e = go (eqb s 61) e
  where
    definition-good : (us : List Lexeme) → list_all good_lexeme us ≡ true → definition w us ≡ Some f → good_statement f ≡ true
    definition-good [] b q = absurd (grind arith)
    definition-good (sign r ∷ us) b q = absurd (grind arith)
    definition-good (word k ∷ us) b q = defined_good w (kind_of k) (bracketed us) f g (λ ns h. bracketed_good us ns (and_parts (good_lexeme (word k)) (list_all good_lexeme us) b).1 h) q

    go : (b : Bool) → cond b (definition w ts) (declared w (bracketed (sign s ∷ ts))) ≡ Some f → good_statement f ≡ true
    go true q = definition-good ts a q
    go false q = declared_good w (bracketed (sign s ∷ ts)) f (λ ns h. bracketed_good (sign s ∷ ts) ns a h) q

pub statement_good : (l : List ℕ) (f : Statement) → statement (lexemes l) ≡ Some f → good_statement f ≡ true
statement_good l f e = go (lexemes l) (lexemes_good l) e
  where
    go : (ts : List Lexeme) → list_all good_lexeme ts ≡ true → statement ts ≡ Some f → good_statement f ≡ true
    go [] a q = absurd (grind arith)
    go (sign s ∷ ts) a q = absurd (grind arith)
    go (word w ∷ ts) a q = let p = and_parts (good_lexeme (word w)) (list_all good_lexeme ts) a in begun_good w ts f p.0 p.1 q
