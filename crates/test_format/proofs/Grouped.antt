-- The groups of a record that is made of three groups, and a record made of its groups.
use Rattle.std.proofs.Common.{◌≡◌, ℕ, zero, suc, ◌+◌, ◌*◌, ◌≤◌, Bool, true, List, [], ◌∷◌, ◌++◌, length, take, drop, refl, ap, ◌∙◌, arith}
use Rattle.std.proofs.lemmas.List.{take_at, drop_at, take-append-le, take-append-drop, length-append, append_assoc}
use Rattle.std.proofs.lemmas.Bool.{and_parts, and_from}
use Rattle.std.specs.List.{list_all}
use Rattle.test_format.specs.Packing.{unpack, bytes_for, pack}
use Rattle.test_format.specs.Records.{map_of, ones, record_length, map_group, input_group, value_group}
use Rattle.test_format.proofs.Packed.{length_unpack, unpack_append, length_pack, take_unpack_pack}

-- bits at the front of bytes are those of the bytes at the front
pub front_bits : (n : ℕ) (g h : List ℕ) → n ≤ 8 * length g → take n (unpack (g ++ h)) ≡ take n (unpack g)
front_bits n g h l = ap (take n) (unpack_append g h) ∙ take-append-le n (unpack g) (unpack h) (omega (arith, length_unpack g))

pub all_take : {A : Type 0} (p : A → Bool) (n : ℕ) (xs : List A) → list_all p xs ≡ true → list_all p (take n xs) ≡ true
all_take p zero xs a = refl
all_take p (suc n) [] a = refl
all_take p (suc n) (x ∷ xs) a = let h = and_parts (p x) (list_all p xs) a in and_from (p x) (list_all p (take n xs)) h.0 (all_take p n xs h.1)

pub all_drop : {A : Type 0} (p : A → Bool) (n : ℕ) (xs : List A) → list_all p xs ≡ true → list_all p (drop n xs) ≡ true
all_drop p zero xs a = a
all_drop p (suc n) [] a = refl
all_drop p (suc n) (x ∷ xs) a = all_drop p n xs (and_parts (p x) (list_all p xs) a).1

-- ── a map, inputs and what follows, packed ──
pub map_of_packed : (ms : List Bool) (rest : List ℕ) → map_of (length ms) (pack ms ++ rest) ≡ ms
map_of_packed ms rest = front_bits (length ms) (pack ms) rest (omega (arith, length_pack ms)) ∙ take_unpack_pack ms

pub map_group_packed : (ms : List Bool) (rest : List ℕ) → map_group (length ms) (pack ms ++ rest) ≡ pack ms
map_group_packed ms rest = take_at (pack ms) rest (bytes_for (length ms)) (length_pack ms)

pub input_group_packed : (ms is : List Bool) (rest : List ℕ) → input_group (length is) (length ms) (pack ms ++ (pack is ++ rest)) ≡ pack is
input_group_packed ms is rest =
    ap (take (bytes_for (length is))) (drop_at (pack ms) (pack is ++ rest) (bytes_for (length ms)) (length_pack ms))
    ∙ take_at (pack is) rest (bytes_for (length is)) (length_pack is)

pub value_group_packed : (ms is : List Bool) (rest : List ℕ) → value_group (length is) (length ms) (pack ms ++ (pack is ++ rest)) ≡ rest
value_group_packed ms is rest =
    ap (drop (bytes_for (length is))) (drop_at (pack ms) (pack is ++ rest) (bytes_for (length ms)) (length_pack ms))
    ∙ drop_at (pack is) rest (bytes_for (length is)) (length_pack is)

-- what the map requires, whatever follows the record
pub required_packed : (ms is vs : List Bool) (rest : List ℕ) → ones ms ≡ length vs → record_length (length is) (length ms) ((pack ms ++ (pack is ++ pack vs)) ++ rest) ≡ length (pack ms ++ (pack is ++ pack vs))
required_packed ms is vs rest e =
    let whole = ap (map_of (length ms)) (append_assoc (pack ms) (pack is ++ pack vs) rest) ∙ map_of_packed ms ((pack is ++ pack vs) ++ rest) in
    ap (λ (l : List Bool). bytes_for (length ms) + bytes_for (length is) + bytes_for (ones l)) whole
    ∙ ap (λ n. bytes_for (length ms) + bytes_for (length is) + bytes_for n) e
    ∙ omega (arith, length-append (pack ms) (pack is ++ pack vs), length-append (pack is) (pack vs), length_pack ms, length_pack is, length_pack vs)

-- the groups of a record, joined, are the record
pub groups_joined : (I O : ℕ) (bytes : List ℕ) → map_group O bytes ++ (input_group I O bytes ++ value_group I O bytes) ≡ bytes
groups_joined I O bytes =
    ap (λ (l : List ℕ). map_group O bytes ++ l) (take-append-drop (bytes_for I) (drop (bytes_for O) bytes))
    ∙ take-append-drop (bytes_for O) bytes
