-- The books of the tests are those of an opening.
use Rattle.std.proofs.Common.{List, None, Some, [], ap, arith, false, length, map, refl, replicate, subst, suc, sym, true, zero, ℕ, ◌<◌, ◌∷◌, ◌≡◌}
use Rattle.std.specs.Prelude.{slice_get}
use Rattle.sv_laws.proofs.Opened.{first-opening, opening-sound}
use Rattle.sv_model.proofs.Entries.{entry_none, every_none, get_none, in-none}
use Rattle.sv_model.specs.Described.{IsFileOf}
use Rattle.sv_model.specs.Families.{InRange, default_family, default_name, first_options}
use Rattle.sv_model.specs.Lists.{In, at, bit}
use Rattle.sv_model.specs.Named.{numbers_of}
use Rattle.sv_model.specs.Openings.{IsOpening}
use Rattle.sv_model.specs.Registers.{entry}
use Rattle.sv_model.specs.Tasks.{handle}
use Rattle.sv_model.specs.declared.records.Family.{Family}
use Rattle.sv_model.specs.declared.records.Version.{Version}
use Rattle.sv_rule.specs.Begins.{FirstBooks}
use Rattle.sv_slots_tests.specs.World.{no_list, no_version, memtable_of, other_family, super_of, top_of, world_books, world_disk}

pub some_is : {A : Type 0} {x y : A} → Some x ≡ Some y → x ≡ y
some_is e = cc

-- what holds of each of the four
pub by-four : {A : Type 0} (a b c d : A) (P : ℕ → A → Type 0) → P 0 a → P 1 b → P 2 c → P 3 d → (i : ℕ) (y : A)
    → slice_get (a ∷ b ∷ c ∷ d ∷ []) i ≡ Some y → P i y
by-four a b c d P pa pb pc pd zero y e = subst (P 0) (some_is e) pa
by-four a b c d P pa pb pc pd (suc zero) y e = subst (P 1) (some_is e) pb
by-four a b c d P pa pb pc pd (suc (suc zero)) y e = subst (P 2) (some_is e) pc
by-four a b c d P pa pb pc pd (suc (suc (suc zero))) y e = subst (P 3) (some_is e) pd
by-four a b c d P pa pb pc pd (suc (suc (suc (suc i)))) y e = absurd (get_none i y e)

by-family : (P : ℕ → Family → Type 0) → P 0 default_family → P 1 (other_family 98) → P 2 (other_family 99)
    → P 3 (other_family 100) → (i : ℕ) (y : Family) → slice_get world_books.families i ≡ Some y → P i y
by-family P a b c d = by-four default_family (other_family 98) (other_family 99) (other_family 100) P a b c d

no_files : (v : ℕ) (x : Version) → entry world_books.versions v ≡ Some x → x.files ≡ []
no_files zero x e = absurd (let q : None ≡ Some x = e in cc)
no_files (suc v) x e = by-four no_version no_version no_version no_version (λ i y. y.files ≡ []) refl refl refl refl v x e

replicated : {A : Type 0} (a : A) (n i : ℕ) (b : A) → slice_get (replicate n a) i ≡ Some b → b ≡ a
replicated a zero i b e = absurd (cc)
replicated a (suc n) zero b e = sym (some_is e)
replicated a (suc n) (suc i) b e = replicated a n i b e

apart : (f g : ℕ) (x y : Family) → slice_get world_books.families f ≡ Some x → slice_get world_books.families g ≡ Some y
    → x.name ≡ y.name → f ≡ g
apart f g x y e d n = by-family (λ i z. z.name ≡ y.name → i ≡ g)
    (λ n. by-family (λ j z. default_name ≡ z.name → 0 ≡ j) (λ _. refl) (λ q. absurd (long q)) (λ q. absurd (long q))
    (λ q. absurd (long q)) g y d n)
    (λ n. by-family (λ j z. 98 ∷ [] ≡ z.name → 1 ≡ j) (λ q. absurd (long (sym q))) (λ _. refl)
    (λ q. absurd (omega (arith, head q))) (λ q. absurd (omega (arith, head q))) g y d n)
    (λ n. by-family (λ j z. 99 ∷ [] ≡ z.name → 2 ≡ j) (λ q. absurd (long (sym q)))
    (λ q. absurd (omega (arith, head q))) (λ _. refl) (λ q. absurd (omega (arith, head q))) g y d n)
    (λ n. by-family (λ j z. 100 ∷ [] ≡ z.name → 3 ≡ j) (λ q. absurd (long (sym q)))
    (λ q. absurd (omega (arith, head q))) (λ q. absurd (omega (arith, head q))) (λ _. refl) g y d n)
    f x e n
  where
    long : {c : ℕ} → default_name ≡ c ∷ [] → ⊥
    long q = omega (arith, ap (λ (l : List ℕ). length l) q)

    head : {c d : ℕ} → c ∷ [] ≡ d ∷ [] → c ≡ d
    head q = ap (λ (l : List ℕ). at 0 l 0) q

pub first-world : IsOpening world_books
first-world =
    let first = first-opening 1 (omega arith) (omega arith) in record {
      most = omega arith;
      supers_made = refl;
      memtables_made = refl;
      lists_made = refl;
      versions_made = refl;
      tops_made = refl;
      supers = by-family (λ i y. slice_get world_books.supers i ≡ Some (record (super_of i) { descriptor = record (super_of i).descriptor { options = y.options } })) refl refl refl refl;
      memtables = by-family (λ i y. slice_get world_books.memtables i ≡ Some (memtable_of i)) refl refl refl refl;
      lists = by-family (λ i y. slice_get world_books.lists i ≡ Some no_list) refl refl refl refl;
      versions = λ i y e. record {
        it = no_version;
        at = by-family (λ i y. slice_get world_books.versions i ≡ Some no_version) refl refl refl refl i y e;
        live = refl;
        files = record { joins = refl; each = every_none (IsFileOf [] [] i); above = λ j m q. absurd (get_none j m q) };
      };
      tops = by-family (λ i y. slice_get world_books.tops i ≡ Some (top_of i)) refl refl refl refl;
      stand = by-family (λ i y. y.dropped ≡ false) refl refl refl refl;
      handles = by-family (λ i y. length y.handles ≡ 32) refl refl refl refl;
      options = by-family (λ i y. InRange y.options) range range range range;
      distinct = apart;
      default = record { it = default_family; at = refl; name_is = refl; stands = refl };
      writes = λ i w e. absurd (get_none i w e);
      few = omega arith;
      numbers = first.numbers;
      metas = refl;
      cuts = λ i m e. absurd (get_none i m e);
      files = λ n. (
        λ w. absurd (entry_none w.0 w.1 w.2),
        λ w. absurd (in-none n (subst (λ (l : List _). In n (numbers_of l)) (no_files w.0 w.1 w.2) w.3.has)),
      );
      few_files = omega arith;
      idle = first.idle;
      captured = refl;
      holds = λ i n e. replicated 0 32 i n e;
      lanes = refl;
      jobs = refl;
      snapshots = refl;
    }
  where
    range : InRange first_options
    range = record {
      rows_least = omega arith;
      rows_most = omega arith;
      lists_least = omega arith;
      lists_most = omega arith;
    }

handles-at : (b : _) (n lane : ℕ) → lane < n → at 0 (map bit (replicate n b)) lane ≡ bit b
handles-at b zero lane l = absurd (omega arith)
handles-at b (suc n) zero l = refl
handles-at b (suc n) (suc lane) l = handles-at b n lane (omega arith)

none-else : (n lane : ℕ) → at 0 (map bit (replicate n false)) lane ≡ 0
none-else zero lane = refl
none-else (suc n) zero = refl
none-else (suc n) (suc lane) = none-else n lane

handles-none : (lane f : ℕ) → 0 < f → handle world_books.families lane f ≡ 0
handles-none lane zero pos = absurd (omega arith)
handles-none lane (suc zero) pos = none-else 32 lane
handles-none lane (suc (suc zero)) pos = none-else 32 lane
handles-none lane (suc (suc (suc zero))) pos = none-else 32 lane
handles-none lane (suc (suc (suc (suc f)))) pos = refl

pub world-begins : FirstBooks world_books world_disk
world-begins = record {
  opening = first-world;
  lawful = (opening-sound world_books first-world).lawful;
  default = λ lane few. handles-at true 32 lane few;
  others = handles-none;
  numbers = λ i x e. absurd (entry_none i x e);
  files = λ files e. absurd (let q : None ≡ Some files = e in cc);
}
