-- The bytes of a netlist text: its lines, and the words and signs of a line.
--   lines                the lines of a text, without the byte 10 that ends each
--   stray                the column of the first byte that may not stand in a line
--   skipped              whether a line is empty or a comment
--   lexemes              the words and signs of a line, in order
use Rattle.std.specs.Prelude.{ℕ, Bool, true, false, cond, not, ◌||◌, List, [], ◌∷◌, Option, ◌==◌}
use Rattle.std.specs.List.{onto_first, position_from}
use Rattle.std.specs.Char.{is_ascii_alphanumeric}

-- a letter, a digit or an underscore
abbrev pub name_byte : ℕ → Bool
name_byte b = is_ascii_alphanumeric b || b == 95

-- one of ( ) , =
abbrev pub sign_byte : ℕ → Bool
sign_byte b = b == 40 || (b == 41 || (b == 44 || b == 61))

-- what may stand in a line that is not skipped: also a space
abbrev pub line_byte : ℕ → Bool
line_byte b = name_byte b || (b == 32 || sign_byte b)

-- where the first of these bytes has column k
abbrev pub stray : ℕ → List ℕ → Option ℕ
stray = position_from (λ b. not (line_byte b))

-- a line ends with byte 10, or with the text
abbrev pub lines : List ℕ → List (List ℕ)
lines [] = []
lines (b ∷ bs) = cond (b == 10) ([] ∷ lines bs) (onto_first b (lines bs))

-- empty, or begun with #
abbrev pub skipped : List ℕ → Bool
skipped [] = true
skipped (b ∷ bs) = b == 35

pub data Lexeme : Type 0 where
  word : List ℕ → Lexeme
  sign : ℕ → Lexeme

abbrev pub starts_name : List ℕ → Bool
starts_name [] = false
starts_name (b ∷ bs) = name_byte b

-- b in front of the word that comes first
abbrev pub in_word : ℕ → List Lexeme → List Lexeme
in_word b [] = []
in_word b (word w ∷ ts) = word (b ∷ w) ∷ ts
in_word b (sign s ∷ ts) = sign s ∷ ts

-- b before these, where `more` says that the word which it begins goes on
abbrev pub lexeme : ℕ → Bool → List Lexeme → List Lexeme
lexeme b more ts = cond (b == 32) ts (cond (name_byte b) (cond more (in_word b ts) (word (b ∷ []) ∷ ts)) (sign b ∷ ts))

-- a word is as long as it goes on; spaces stand between
abbrev pub lexemes : List ℕ → List Lexeme
lexemes [] = []
lexemes (b ∷ bs) = lexeme b (starts_name bs) (lexemes bs)
