-- What the scanner's functions answer.
--   column      the column that a fault tells
--   lexeme_of   the word or sign that a token is
--   Placed      that a sign stands at its place
--   Scanned     what the token at a place of a line is, and the place behind it
--   ahead       the words and signs still to come
--   remains     how many bytes are still to come
--   Stepped     what one step of a scanner leaves and gives
use Rattle.std.specs.Prelude.{◌≡◌, ℕ, ◌<◌, ◌≤◌, List, [], ◌∷◌, length, drop, Some, None, Ok, Err, Option, Result, slice_index}
use Rattle.netlist_text.specs.Words.{Lexeme, word, sign, lexemes}
use Rattle.scanner.specs.declared.token.Token.{Token}
use Rattle.scanner.specs.declared.token.Token.TheVariants.{Word, Open, Close, Comma, Equals}
use Rattle.scanner.specs.declared.token.ScanFault.{ScanFault}
use Rattle.scanner.specs.declared.scanner.Scanner.{Scanner}

abbrev pub column : {X : Type 0} → Result X ScanFault → Option ℕ
column (Ok x) = None
column (Err f) = Some f.column

abbrev pub lexeme_of : Token → Lexeme
lexeme_of (Word w) = word w.now
lexeme_of (Open p) = sign 40
lexeme_of (Close p) = sign 41
lexeme_of (Comma p) = sign 44
lexeme_of (Equals p) = sign 61

abbrev pub Placed : List ℕ → Token → Type 0
Placed l (Word w) = Unit {0}
Placed l (Open p) = slice_index l p ≡ 40
Placed l (Close p) = slice_index l p ≡ 41
Placed l (Comma p) = slice_index l p ≡ 44
Placed l (Equals p) = slice_index l p ≡ 61

abbrev pub Scanned : List ℕ → ℕ → Option (Token × ℕ) → Type 0
Scanned l at None = lexemes (drop at l) ≡ []
Scanned l at (Some x) = (lexemes (drop at l) ≡ lexeme_of x.0 ∷ lexemes (drop x.1 l)) × (at < x.1) × (x.1 ≤ length l) × Placed l x.0

abbrev pub ahead : Scanner → List Lexeme
ahead s = lexemes (drop s.at s.line.now)

abbrev pub remains : Scanner → ℕ
remains s = length (drop s.at s.line.now)

abbrev pub Stepped : Scanner → Scanner → Option Token → Type 0
Stepped s u None = (ahead s ≡ []) × (ahead u ≡ []) × (u.line.now ≡ s.line.now)
Stepped s u (Some t) = (ahead s ≡ lexeme_of t ∷ ahead u) × (remains u < remains s) × (u.line.now ≡ s.line.now) × Placed s.line.now t
