-- How a script spells numbers, characters and texts, and how spaces part a line.
use Rattle.std.specs.Prelude.{◌≡◌, ◌≢◌, ℕ, ◌+◌, ◌-◌, ◌*◌, ◌<◌, ◌≤◌, Bool, true, ◌==◌, ◌&&◌, nat_lt, nat_le, List, [], ◌∷◌, ◌++◌, length, Option, Some, None, option_and_then, codes, encode_utf8, if◌then◌else◌}
use Rattle.std.specs.Char.{IsScalar}

-- whether each byte is a digit from 0 to 9
abbrev pub are_digits : List ℕ → Bool
are_digits [] = true
are_digits (d ∷ ds) = (nat_le 48 d && nat_le d 57) && are_digits ds

-- the value of these digits, after digits of value n
abbrev pub value_from : ℕ → List ℕ → ℕ
value_from n [] = n
value_from n (d ∷ ds) = value_from (n * 10 + (d - 48)) ds

-- the number that one or more digits name, if it is at most the greatest
unfoldable pub number_of : ℕ → List ℕ → Option ℕ
number_of greatest bytes =
    if nat_lt 0 (length bytes) && (are_digits bytes && nat_le (value_from 0 bytes) greatest) then Some (value_from 0 bytes) else None

-- the character that a letter after a backslash stands for
abbrev pub letter_of : ℕ → Option ℕ
letter_of b =
    if b == 92 then Some 92
    else if b == 110 then Some 10
    else if b == 114 then Some 13
    else if b == 116 then Some 9
    else if b == 115 then Some 32
    else None

-- the value of a hexadecimal digit
abbrev pub hex_digit : ℕ → Option ℕ
hex_digit b =
    if nat_le 48 b && nat_le b 57 then Some (b - 48)
    else if nat_le 97 b && nat_le b 102 then Some (b - 87)
    else if nat_le 65 b && nat_le b 70 then Some (b - 55)
    else None

-- the value of these hexadecimal digits, after digits of value n
abbrev pub hex_from : ℕ → List ℕ → Option ℕ
hex_from n [] = Some n
hex_from n (b ∷ bs) = option_and_then (λ d. hex_from (n * 16 + d) bs) (hex_digit b)

-- one to six hexadecimal digits name this character
pub record NamesChar (digits : List ℕ) (c : ℕ) : Type 0 where
  pub some : 0 < length digits
  pub few : length digits ≤ 6
  pub value : hex_from 0 digits ≡ Some c
  pub is : IsScalar c

-- these bytes, after a backslash, stand for this character: a letter, or a u and digits in braces
pub data Escapes : List ℕ → ℕ → Type 0 where
  letter : {b c : ℕ} → letter_of b ≡ Some c → Escapes (b ∷ []) c
  braced : {digits : List ℕ} {c : ℕ} → NamesChar digits c → Escapes (codes "u{" ++ digits ++ codes "}") c

-- These bytes of a script stand for this text: no bytes for the empty text, a byte other than a backslash for itself, and a
-- backslash with what follows it for a character.
pub data Spells : List ℕ → List ℕ → Type 0 where
  nothing : Spells [] []
  plain : {b : ℕ} {bytes text : List ℕ} → b ≢ 92 → Spells bytes text → Spells (b ∷ bytes) (b ∷ text)
  escape : {code bytes text : List ℕ} {c : ℕ} → Escapes code c → Spells bytes text → Spells (92 ∷ (code ++ bytes)) (encode_utf8 c ++ text)

-- these bytes stand for a text of one character
abbrev pub SpellsChar : List ℕ → ℕ → Type 0
SpellsChar bytes c = IsScalar c × Spells bytes (encode_utf8 c)

-- a line's first word: what stands before the first space
abbrev pub word : List ℕ → List ℕ
word [] = []
word (b ∷ bs) = if b == 32 then [] else b ∷ word bs

-- what stands after the first space, if there is one
abbrev pub rest : List ℕ → Option (List ℕ)
rest [] = None
rest (b ∷ bs) = if b == 32 then Some bs else rest bs

-- the first word is this number, at most the greatest, and these bytes stand after the space
pub record Numbered (greatest : ℕ) (given : List ℕ) (n : ℕ) (after : List ℕ) : Type 0 where
  pub number : number_of greatest (word given) ≡ Some n
  pub on : rest given ≡ Some after

-- what follows a word stands for this text, which is empty if no space follows
abbrev pub SpellsRest : Option (List ℕ) → List ℕ → Type 0
SpellsRest None text = text ≡ []
SpellsRest (Some bytes) text = Spells bytes text

-- the first word is this number, at most the greatest, and the text follows
pub record NumberedText (greatest : ℕ) (given : List ℕ) (n : ℕ) (text : List ℕ) : Type 0 where
  pub number : number_of greatest (word given) ≡ Some n
  pub spells : SpellsRest (rest given) text
