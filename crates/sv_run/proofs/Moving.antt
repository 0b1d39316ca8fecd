-- Pieces that follow one another: of what a source had, and of a text that is written.
use Rattle.std.proofs.Common.{◌≡◌, ◌<◌, ◌≤◌, ◌+◌, ℕ, List, [], ◌∷◌, ◌++◌, length, take, drop, Option, Some, None, refl, sym, ◌∙◌, ap, subst, arith, append_assoc}
use Rattle.std.specs.Io.KnownBytes.{Appends, Consumes, IsAtEnd, Keeps}
use Rattle.std.proofs.lemmas.List.{append-nil, drop-take, length-append, length-take, take-append-drop, take-take}
use Rattle.sv_run.specs.Transfers.{ReadsWhole, IsLong, MovesPiece, TakesAtMost}

pub consumes_more : (a b c : Option (List ℕ)) (xs ys : List ℕ) → Consumes a b xs → Consumes b c ys → Consumes a c (xs ++ ys)
consumes_more None b c xs ys h k = tt
consumes_more (Some a) None c xs ys h k = absurd h
consumes_more (Some a) (Some b) None xs ys h k = absurd k
consumes_more (Some a) (Some b) (Some c) xs ys h k = h ∙ ap (λ z. xs ++ z) k ∙ sym (append_assoc xs ys c)

pub moves_more : (a b c : Option (List ℕ)) (xs zs : List ℕ) (n : ℕ) → Consumes a b xs → MovesPiece b c xs zs n → Consumes a c zs
moves_more a b c xs zs n h m = subst (λ z. Consumes a c z) (sym m.put) (consumes_more a b c xs m.piece h m.took)

-- a front, and the front of what follows it
take_add : (n m : ℕ) (xs : List ℕ) → take (n + m) xs ≡ take n xs ++ take m (drop n xs)
take_add n m xs = sym (take-append-drop n (take (n + m) xs)) ∙ ap (λ z. z ++ drop n (take (n + m) xs)) (take-take n (n + m) xs (omega arith)) ∙ ap (λ z. take n xs ++ z) (drop-take n m xs)

nothing : (xs : List ℕ) → length xs ≡ 0 → xs ≡ []
nothing [] e = refl
nothing (x ∷ xs) e = absurd (omega arith)

pub reads_whole : (a b : Option (List ℕ)) (xs : List ℕ) → length xs ≤ 16777216 → Consumes a b xs → IsAtEnd b → ReadsWhole a xs
reads_whole None b xs few h at = record { few = few; all = tt }
reads_whole (Some a) None xs few h at = absurd h
reads_whole (Some a) (Some b) xs few h at = record { few = few; all = sym (append-nil xs) ∙ ap (λ z. xs ++ z) (sym at) ∙ sym h }

pub is_long : (a b : Option (List ℕ)) (xs : List ℕ) → 16777216 < length xs → Consumes a b xs → IsLong a
is_long None b xs lt h = tt
is_long (Some a) None xs lt h = absurd h
is_long (Some a) (Some b) xs lt h = omega (arith, ap length h, length-append xs b)

pub appends_more : (a b c : Option (List ℕ)) (text : List ℕ) (n m : ℕ) → Appends a b (take n text) → Appends b c (take m (drop n text)) → Appends a c (take (n + m) text)
appends_more None b c text n m h k = tt
appends_more (Some a) None c text n m h k = absurd h
appends_more (Some a) (Some b) None text n m h k = absurd k
appends_more (Some a) (Some b) (Some c) text n m h k =
    k ∙ ap (λ z. z ++ take m (drop n text)) h ∙ append_assoc a (take n text) (take m (drop n text)) ∙ ap (λ z. a ++ z) (sym (take_add n m text))

-- nothing was taken
pub takes-none : (n : ℕ) (a : Option (List ℕ)) → TakesAtMost n a a
takes-none n None = record { bytes = []; took = tt; few = omega arith }
takes-none n (Some a) = record { bytes = []; took = refl; few = omega arith }

pub takes-kept : (n : ℕ) (a b : Option (List ℕ)) → Keeps a b → TakesAtMost n a b
takes-kept n None b h = record { bytes = []; took = tt; few = omega arith }
takes-kept n (Some a) None h = absurd h
takes-kept n (Some a) (Some b) h = record { bytes = []; took = sym h; few = omega arith }

-- a read that gave n bytes of the buffer took these
pub takes-read : (most n : ℕ) (a b : Option (List ℕ)) (buffer : List ℕ) → n ≤ most → Consumes a b (take n buffer) → TakesAtMost most a b
takes-read most n a b buffer few h = record { bytes = take n buffer; took = h; few = omega (arith, length-take n buffer) }

-- after what was taken, a piece
pub takes-more : (n m most : ℕ) (a b c : Option (List ℕ)) (xs : List ℕ) → length xs ≤ n → n + m ≤ most → Consumes a b xs → TakesAtMost m b c → TakesAtMost most a c
takes-more n m most a b c xs few room h t = record {
  bytes = xs ++ t.bytes;
  took = consumes_more a b c xs t.bytes h t.took;
  few = omega (arith, length-append xs t.bytes, t.few);
}

pub takes-all : (most : ℕ) (a b : Option (List ℕ)) (xs : List ℕ) → length xs ≤ most → Consumes a b xs → TakesAtMost most a b
takes-all most a b xs few h = record { bytes = xs; took = h; few = few }
