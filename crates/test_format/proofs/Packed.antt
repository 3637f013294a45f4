-- Bits packed into bytes come back, and bytes whose unused bits are 0 are packed from their bits.
use Rattle.std.proofs.Common.{◌≡◌, ℕ, zero, suc, ◌+◌, ◌*◌, ◌/◌, ◌%◌, ◌^◌, ◌<◌, ◌≤◌, Bool, true, false, cond, not, eqb, List, [], ◌∷◌, ◌++◌, length, get_or, take, drop, sym, refl, ap, ◌∙◌, subst, pow-suc, arith, lit<}
use Rattle.std.proofs.lemmas.List.{length-append, append_assoc, take_at, drop_at, length-take-le}
use Rattle.std.proofs.lemmas.Bool.{and_parts, and_from, lt-ltb, ltb-true, false≢true}
use Rattle.std.proofs.lemmas.Bool.Decides.{eqb_tells}
use Rattle.std.proofs.lemmas.Nat.{div_below}
use Rattle.std.specs.List.{list_all}
use Rattle.test_format.specs.Packing.{bits, number, unpack, bytes_for, pack_into, pack, is_byte}

-- the front of a list of bits, so long, with 0 for the bits it lacks
abbrev pub pad : ℕ → List Bool → List Bool
pad zero bs = []
pad (suc k) [] = false ∷ pad k []
pad (suc k) (b ∷ bs) = b ∷ pad k bs

pub length_pad : (k : ℕ) (bs : List Bool) → length (pad k bs) ≡ k
length_pad zero bs = refl
length_pad (suc k) [] = ap suc (length_pad k [])
length_pad (suc k) (b ∷ bs) = ap suc (length_pad k bs)

pub take_pad : (k : ℕ) (bs : List Bool) → length bs ≤ k → take (length bs) (pad k bs) ≡ bs
take_pad k [] h = refl
take_pad zero (b ∷ bs) h = absurd (omega arith)
take_pad (suc k) (b ∷ bs) h = ap (λ (l : List Bool). b ∷ l) (take_pad k bs (omega arith))

pub zeros_clear : (k : ℕ) → list_all not (pad k []) ≡ true
zeros_clear zero = refl
zeros_clear (suc k) = zeros_clear k

pub drop_pad_clear : (k : ℕ) (bs : List Bool) → list_all not (drop (length bs) (pad k bs)) ≡ true
drop_pad_clear k [] = zeros_clear k
drop_pad_clear zero (b ∷ bs) = refl
drop_pad_clear (suc k) (b ∷ bs) = drop_pad_clear k bs

pub pad_take : (n : ℕ) (bs : List Bool) → list_all not (drop n bs) ≡ true → pad (length bs) (take n bs) ≡ bs
pad_take zero [] h = refl
pad_take zero (false ∷ bs) h = ap (λ (l : List Bool). false ∷ l) (pad_take zero bs h)
pad_take zero (true ∷ bs) h = absurd (false≢true h)
pad_take (suc n) [] h = refl
pad_take (suc n) (b ∷ bs) h = ap (λ (l : List Bool). b ∷ l) (pad_take n bs h)

zeros_split : (j m : ℕ) → pad (j + m) [] ≡ pad j [] ++ pad m []
zeros_split zero m = let e : 0 + m ≡ m = omega arith in ap (λ k. pad k []) e
zeros_split (suc j) m = let e : suc j + m ≡ suc (j + m) = omega arith in ap (λ k. pad k []) e ∙ ap (λ (l : List Bool). false ∷ l) (zeros_split j m)

pub pad_split : (j m : ℕ) (bs : List Bool) → pad (j + m) bs ≡ pad j (take j bs) ++ pad m (drop j bs)
pad_split zero m bs = let e : 0 + m ≡ m = omega arith in ap (λ k. pad k bs) e
pad_split (suc j) m [] = zeros_split (suc j) m
pad_split (suc j) m (b ∷ bs) =
    let e : suc j + m ≡ suc (j + m) = omega arith in
    ap (λ k. pad k (b ∷ bs)) e ∙ ap (λ (l : List Bool). b ∷ l) (pad_split j m bs)

-- ── one byte ──
pub length_bits : (k n : ℕ) → length (bits k n) ≡ k
unfolding bits
length_bits zero n = refl
length_bits (suc k) n = ap suc (length_bits k (n / 2))

lowest_is : (n : ℕ) → cond (eqb (n % 2) 1) 1 0 ≡ n % 2
lowest_is n = grind (arith, eqb_tells)

pub number_bits : (k n : ℕ) → n < 2 ^ k → number (bits k n) ≡ n
unfolding bits number
number_bits zero n h = let z : n < 1 = h in omega arith
number_bits (suc k) n h =
    let half : n / 2 < 2 ^ k = div_below n 2 (2 ^ k) (lit< tt) (subst (λ m. n < m) (pow-suc 2 k) h) in
    let ih = number_bits k (n / 2) half in
    omega (arith, lowest_is n, ih)

-- the low bits of a number are those it was made of
pub bits_number : (k : ℕ) (bs : List Bool) → bits k (number bs) ≡ pad k bs
unfolding bits number
bits_number zero bs = refl
bits_number (suc k) [] = ap (λ (l : List Bool). false ∷ l) (bits_number k [])
bits_number (suc k) (false ∷ bs) =
    let low : (0 + 2 * number bs) % 2 ≡ 0 = omega arith in
    let high : (0 + 2 * number bs) / 2 ≡ number bs = omega arith in
    ap (λ n. eqb n 1 ∷ bits k ((0 + 2 * number bs) / 2)) low ∙ ap (λ n. false ∷ bits k n) high ∙ ap (λ (l : List Bool). false ∷ l) (bits_number k bs)
bits_number (suc k) (true ∷ bs) =
    let low : (1 + 2 * number bs) % 2 ≡ 1 = omega arith in
    let high : (1 + 2 * number bs) / 2 ≡ number bs = omega arith in
    ap (λ n. eqb n 1 ∷ bits k ((1 + 2 * number bs) / 2)) low ∙ ap (λ n. true ∷ bits k n) high ∙ ap (λ (l : List Bool). true ∷ l) (bits_number k bs)

number_zeros : (k : ℕ) → number (pad k []) ≡ 0
unfolding number
number_zeros zero = refl
number_zeros (suc k) = omega (arith, number_zeros k)

number_pad : (k : ℕ) (bs : List Bool) → number (pad k (take k bs)) ≡ number (take k bs)
unfolding number
number_pad zero bs = refl
number_pad (suc k) [] = number_zeros (suc k)
number_pad (suc k) (b ∷ bs) = ap (λ n. cond b 1 0 + 2 * n) (number_pad k bs)

-- ── bytes ──
pub length_unpack : (g : List ℕ) → length (unpack g) ≡ 8 * length g
unfolding unpack
length_unpack [] = refl
length_unpack (b ∷ g) = length-append (bits 8 b) (unpack g) ∙ omega (arith, length_bits 8 b, length_unpack g)

pub unpack_append : (g h : List ℕ) → unpack (g ++ h) ≡ unpack g ++ unpack h
unfolding unpack
unpack_append [] h = refl
unpack_append (b ∷ g) h = ap (λ (l : List Bool). bits 8 b ++ l) (unpack_append g h) ∙ sym (append_assoc (bits 8 b) (unpack g) (unpack h))

pub length_pack_into : (k : ℕ) (bs : List Bool) → length (pack_into k bs) ≡ k
unfolding pack_into
length_pack_into zero bs = refl
length_pack_into (suc k) bs = ap suc (length_pack_into k (drop 8 bs))

pub unpack_pack_into : (k : ℕ) (bs : List Bool) → unpack (pack_into k bs) ≡ pad (8 * k) bs
unfolding unpack pack_into
unpack_pack_into zero bs = refl
unpack_pack_into (suc k) bs =
    let e : 8 + 8 * k ≡ 8 * suc k = omega arith in
    ap (λ (l : List Bool). bits 8 (number (take 8 bs)) ++ l) (unpack_pack_into k (drop 8 bs))
    ∙ ap (λ (l : List Bool). l ++ pad (8 * k) (drop 8 bs)) (bits_number 8 (take 8 bs))
    ∙ sym (pad_split 8 (8 * k) bs)
    ∙ ap (λ n. pad n bs) e

pack_into_pad : (k : ℕ) (bs : List Bool) → pack_into k (pad (8 * k) bs) ≡ pack_into k bs
unfolding pack_into
pack_into_pad zero bs = refl
pack_into_pad (suc k) bs =
    let e : 8 * suc k ≡ 8 + 8 * k = omega arith in
    let split = ap (λ n. pad n bs) e ∙ pad_split 8 (8 * k) bs in
    let front = take_at (pad 8 (take 8 bs)) (pad (8 * k) (drop 8 bs)) 8 (length_pad 8 (take 8 bs)) in
    let back = drop_at (pad 8 (take 8 bs)) (pad (8 * k) (drop 8 bs)) 8 (length_pad 8 (take 8 bs)) in
    ap (λ (l : List Bool). number (take 8 l) ∷ pack_into k (drop 8 l)) split
    ∙ ap (λ (l : List Bool). number l ∷ pack_into k (drop 8 (pad 8 (take 8 bs) ++ pad (8 * k) (drop 8 bs)))) front
    ∙ ap (λ (l : List Bool). number (pad 8 (take 8 bs)) ∷ pack_into k l) back
    ∙ ap (λ n. n ∷ pack_into k (pad (8 * k) (drop 8 bs))) (number_pad 8 bs)
    ∙ ap (λ (l : List ℕ). number (take 8 bs) ∷ l) (pack_into_pad k (drop 8 bs))

pack_into_unpack : (g : List ℕ) → list_all is_byte g ≡ true → pack_into (length g) (unpack g) ≡ g
unfolding pack_into unpack
pack_into_unpack [] h = refl
pack_into_unpack (b ∷ g) h =
    let p = and_parts (is_byte b) (list_all is_byte g) h in
    let front = take_at (bits 8 b) (unpack g) 8 (length_bits 8 b) in
    let back = drop_at (bits 8 b) (unpack g) 8 (length_bits 8 b) in
    ap (λ (l : List Bool). number l ∷ pack_into (length g) (drop 8 (bits 8 b ++ unpack g))) front
    ∙ ap (λ (l : List Bool). number (bits 8 b) ∷ pack_into (length g) l) back
    ∙ ap (λ n. n ∷ pack_into (length g) (unpack g)) (number_bits 8 b (ltb-true b 256 p.0))
    ∙ ap (λ (l : List ℕ). b ∷ l) (pack_into_unpack g p.1)

-- ── a group ──
pub length_pack : (bs : List Bool) → length (pack bs) ≡ bytes_for (length bs)
length_pack bs = length_pack_into (bytes_for (length bs)) bs

enough : (n : ℕ) → n ≤ 8 * bytes_for n
enough n = omega arith

pub take_unpack_pack : (bs : List Bool) → take (length bs) (unpack (pack bs)) ≡ bs
take_unpack_pack bs = ap (take (length bs)) (unpack_pack_into (bytes_for (length bs)) bs) ∙ take_pad (8 * bytes_for (length bs)) bs (enough (length bs))

pub unpack_pack_clear : (bs : List Bool) → list_all not (drop (length bs) (unpack (pack bs))) ≡ true
unpack_pack_clear bs = ap (λ (l : List Bool). list_all not (drop (length bs) l)) (unpack_pack_into (bytes_for (length bs)) bs) ∙ drop_pad_clear (8 * bytes_for (length bs)) bs

-- the front bits of a group that has enough bytes are so many
pub length_front : (n : ℕ) (g : List ℕ) → length g ≡ bytes_for n → length (take n (unpack g)) ≡ n
length_front n g h = length-take-le n (unpack g) (omega (arith, length_unpack g))

-- a group of the right length whose unused bits are 0 is packed from its bits
pub clear_is_packed : (n : ℕ) (g : List ℕ) → list_all is_byte g ≡ true → length g ≡ bytes_for n → list_all not (drop n (unpack g)) ≡ true → g ≡ pack (take n (unpack g))
clear_is_packed n g b h z =
    let u = unpack g in
    let k = bytes_for n in
    let long : 8 * k ≡ length u = omega (arith, length_unpack g) in
    sym (pack_into_unpack g b)
    ∙ ap (λ m. pack_into m u) h
    ∙ ap (pack_into k) (sym (pad_take n u z) ∙ ap (λ m. pad m (take n u)) (sym long))
    ∙ pack_into_pad k (take n u)
    ∙ ap (λ m. pack_into (bytes_for m) (take n u)) (sym (length_front n g h))

-- what holds of each byte by its place holds of all
pub all_bytes : (bytes : List ℕ) → ((i : ℕ) → get_or bytes i 0 < 256) → list_all is_byte bytes ≡ true
all_bytes [] h = refl
all_bytes (b ∷ bytes) h = and_from (is_byte b) (list_all is_byte bytes) (lt-ltb b 256 (h zero)) (all_bytes bytes (λ i. h (suc i)))
