-- A printed item, read again: `item_of` of `item_text`.
use Rattle.std.proofs.Common.{◌≡◌, ℕ, ◌+◌, ◌*◌, ◌/◌, ◌%◌, ◌<◌, Bool, true, false, eqb, List, [], ◌∷◌, ◌++◌}
use Rattle.std.proofs.Common.{Some, flat_map, refl, sym, ap, ◌∙◌, arith}
use Rattle.std.proofs.lemmas.Bool.Decides.{nat_tests}
use Rattle.std.proofs.lemmas.List.Elements.{recursion_from_All}
use Rattle.std.specs.List.{All, AllByRecursion}
use Rattle.sv_script.specs.Items.{before, byte_text, hex_digit, hex_value, is_plain}
use Rattle.sv_script.specs.Items.{item_of, item_text, pair_value, units_of}
use Rattle.sv_script.proofs.UnitLemmas.{units-pair, units-plain}

hex-digit : (n : ℕ) → n < 16 → hex_value (hex_digit n) ≡ Some n
hex-digit n lt = grind (arith, nat_tests)

-- what two digits of a byte stand for
digits-byte : (byte : ℕ) → byte < 256
    → pair_value (hex_value (hex_digit (byte / 16))) (hex_value (hex_digit (byte % 16))) ≡ Some byte
digits-byte byte lt =
    let high = hex-digit (byte / 16) (omega arith) in
    let low = hex-digit (byte % 16) (omega arith) in
    let whole : byte / 16 * 16 + byte % 16 ≡ byte = omega arith in
    rw (high, low, whole) refl

-- a printed byte in front
byte-again : (byte : ℕ) (rest : List ℕ) (plain : Bool) → is_plain byte ≡ plain → byte < 256
    → units_of (byte_text byte ++ rest) ≡ before (Some byte) (units_of rest)
byte-again byte rest true p lt = rw p (units-plain byte rest p)
byte-again byte rest false p lt =
    let high = hex_digit (byte / 16) in
    let low = hex_digit (byte % 16) in
    rw p (units-pair (high ∷ low ∷ rest) (low ∷ rest) rest high low (Some byte) refl refl (sym (digits-byte byte lt)))

units-again : (bytes : List ℕ) → AllByRecursion (λ byte. byte < 256) bytes
    → units_of (flat_map byte_text bytes) ≡ Some bytes
unfolding units_of
units-again [] h = refl
units-again (byte ∷ bytes) h =
    byte-again byte (flat_map byte_text bytes) (is_plain byte) refl h.0
    ∙ ap (before (Some byte)) (units-again bytes h.1)

-- a word that begins with no `%`, or is longer than it, is read by its units
item-units : (a : ℕ) (rest : List ℕ) → eqb a 37 ≡ false → item_of (a ∷ rest) ≡ units_of (a ∷ rest)
unfolding item_of
item-units a [] e = rw e refl
item-units a (b ∷ rest) e = refl

item-first : (byte : ℕ) (rest : List ℕ) (plain : Bool) → is_plain byte ≡ plain
    → item_of (byte_text byte ++ rest) ≡ units_of (byte_text byte ++ rest)
unfolding item_of
item-first byte rest true p =
    let e : eqb byte 37 ≡ false = grind (arith, nat_tests) in
    rw p (item-units byte rest e)
item-first byte rest false p = rw p refl

item-again : (bytes : List ℕ) → AllByRecursion (λ byte. byte < 256) bytes → item_of (item_text bytes) ≡ Some bytes
unfolding item_of
item-again [] h = refl
item-again (byte ∷ bytes) h =
    item-first byte (flat_map byte_text bytes) (is_plain byte) refl ∙ units-again (byte ∷ bytes) h

pub printed-again : (bytes : List ℕ) → All (λ byte. byte < 256) bytes → item_of (item_text bytes) ≡ Some bytes
printed-again bytes h = item-again bytes (recursion_from_All (λ byte. byte < 256) bytes h)
