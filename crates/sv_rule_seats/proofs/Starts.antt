-- The table at the opening keeps the rule.
use Rattle.std.proofs.Common.{List, None, Option, Some, [], ap, arith, false, inl, inr, length, not, refl, subst, suc, sym, true, zero, ℕ, ◌<◌, ◌∙◌, ◌∷◌, ◌≡◌, ◌≢◌, ◌≤◌}
use Rattle.std.proofs.lemmas.List.{length-map}
use mathlib.Core.Option.{some}
use lib.ListN.{get_elem?}
use Rattle.atomic_table.proofs.Lists.{at_map}
use Rattle.atomic_table.specs.Table.{State, opening}
use Rattle.sv_model.specs.Books.{Books}
use Rattle.sv_model.specs.Cells.{Cell}
use Rattle.sv_model.specs.Journal.{rows_of}
use Rattle.sv_model.specs.Lists.{Every, same}
use Rattle.sv_model.specs.Openings.{first_memtable}
use Rattle.sv_model.specs.declared.records.Memtable.{Memtable}
use Rattle.sv_rule.specs.Begins.{FirstBooks, FirstCell, FirstSlots, FirstWords}
use Rattle.sv_rule.specs.Blanks.{first_view, nobody}
use Rattle.sv_rule.specs.Fresh.{FreshIn}
use Rattle.sv_rule.specs.Held.{IsLent, Says, has_rows, is_vacant}
use Rattle.sv_rule.specs.Ledger.{Places, most_hand}
use Rattle.sv_rule.specs.Numbers.{NumberOk, Numbers}
use Rattle.sv_rule.specs.Rounds.{Loaded}
use Rattle.sv_rule.specs.Rule.{Kept}
use Rattle.sv_rule.specs.Sums.{below}
use Rattle.sv_model.specs.Supers.{current_of, has_current, pack}
use Rattle.sv_rule.specs.Sweep.{lent}
use Rattle.sv_rule.specs.Table.{cached_at, cell_word, holders, home, number, number_word, owers, reference, reference_word, slot, slot_at, slot_home, slot_word, spot, word}
use Rattle.sv_rule.specs.UnderWay.{Stock}
use Rattle.sv_rule.specs.Views.{Body, CellHeld, Desk, Disk, LaneView, away, idle}
use Rattle.sv_rule.specs.declared.parts.Stored.{Stored}
use Rattle.sv_rule.specs.declared.parts.Stored.TheVariants as is
use Rattle.sv_rule.proofs.Basics.{each_one, every_none, no_ref, true_not}
use Rattle.sv_rule.proofs.CurrentLaws.{current_ends, current_is, current_marks, current_newest, get_lt, has_current_le, has_current_none, some-at}
use Rattle.sv_rule_seats.proofs.FirstBooks.{based-first, bears_none, below-one, below-upto, below-zero, current_at_first, current_none, nth_memtable, super_at, super_only}
use Rattle.sv_rule_seats.proofs.FirstWork.{files-first, work-first}
use Rattle.sv_rule_seats.proofs.SeatRest.{fresh_none}
use Rattle.sv_rule.proofs.Sums.{by_less, same-else, same_le, same_one}
use Rattle.sv_model.proofs.Basics.{none_some}

module _ {S D C B : Type 0} (books : S → Books) (disk : D → Disk) (cell : C → Option Cell) (body : B → Body)
    (lanes_made : ℕ) (one : 0 < lanes_made) (few : lanes_made ≤ 32) (b : Books) (d : Disk) (ws : List ℕ)
    (xs : List (Stored S D C B))
    (words : FirstWords (length b.families) ws) (slots : FirstSlots books disk cell b d xs)
    (first : FirstBooks b d) where
  abbrev v : LaneView
  v = first_view lanes_made b d

  abbrev pub O : State (Stored S D C B) LaneView
  O = opening ws xs v

  abbrev n : ℕ
  n = length b.families

  most : n ≤ 16
  most = first.opening.most

  at_home : (k : ℕ) (y : Stored S D C B) → get_elem? xs k ≡ some y → home O k ≡ some (some y)
  at_home k y e = at_map (λ z. some z) xs k y e

  lock_zero : (k : ℕ) → k < 66 → word O k ≡ 0
  lock_zero k l = words.zeros k (λ f near e. omega (arith, l, e)) (λ f near e. omega (arith, l, e))

  slot_zero : (i : ℕ) → i < 512 → slot O i ≡ 0
  slot_zero i l = words.zeros (slot_word i) (λ f near e. omega (arith, l, e, near, most))
      (λ f near e. omega (arith, l, e, near, most))

  round_zero : word O 82 ≡ 0
  round_zero = words.zeros 82 (λ f near e. omega (arith, e, near, most)) (λ f near e. omega (arith, e))

  number_is : (f : ℕ) → f < 16 → number O f ≡ current_of b f
  number_is f near = by_less f n
      (λ l. words.numbers f l ∙ sym (current_at_first b first.opening f l))
      (λ l. words.zeros (number_word f) (λ g few e. omega (arith, e, few, l)) (λ g few e. omega (arith, e, near))
      ∙ sym (current_none b first.opening f l))

  number_at : (f : ℕ) → f < n → number O f ≡ pack (suc f) f
  number_at f l = words.numbers f l

  number_none : (f : ℕ) → f < 16 → n ≤ f → number O f ≡ 0
  number_none f near l = number_is f near ∙ current_none b first.opening f l

  -- who holds a pack
  held_is : (q : ℕ) → 256 ≤ q → holders O q ≡ below (λ f. same q (number O f)) 16
  held_is q big = omega (
    arith,
    below-zero (λ i. same q (slot O i)) 512
        (λ k l. ap (same q) (slot_zero k l) ∙ same-else q 0 (λ e. omega (arith, big, e))),
  )

  other : (q f : ℕ) → 256 ≤ q → f < 16 → (f < n → q ≢ pack (suc f) f) → same q (number O f) ≡ 0
  other q f big near not = by_less f n
      (λ l. same-else q (number O f) (λ e. not l (sym e ∙ number_at f l)))
      (λ l. same-else q (number O f) (λ e. omega (arith, big, e, number_none f near l)))

  held_one : (k : ℕ) → k < n → holders O (pack (suc k) k) ≡ 1
  held_one k l = omega (
    arith,
    held_is (pack (suc k) k) (omega arith),
    below-one (λ f. same (pack (suc k) k) (number O f)) k 16 (omega (arith, l, most))
        (λ f near ne. other (pack (suc k) k) f (omega arith) near (λ less e. ne (omega (arith, e, less, l, most)))),
    same_one (pack (suc k) k) (number O k) (number_at k l),
  )

  held_none : (t k : ℕ) → 0 < t → k < 256 → (k < n → t ≢ suc k) → holders O (pack t k) ≡ 0
  held_none t k pos near not = omega (
    arith,
    held_is (pack t k) (omega (arith, pos)),
    below-zero (λ f. same (pack t k) (number O f)) 16 (λ f less. other (pack t k) f (omega (arith, pos)) less (λ l e.
        let same_place : k ≡ f = omega (arith, e, near, l, most) in
        not (omega (arith, same_place, l)) (omega (arith, e, same_place)))),
  )

  places : Places b.supers (reference O) (holders O) (owers O)
  places k near = by_less k n
      (λ l. inr (record {
        serial = suc k;
        word = words.references k l ∙ omega (arith, held_one k l);
        live = super_at b first.opening k l;
        only = λ t y. (super_only b first.opening t k y).0;
        others_unheld = λ t y ne. held_none t k y near (λ _. ne);
        others_unowed = λ t y ne. refl;
        owed = λ y. absurd (omega (arith, held_one k l, y));
        unowed = λ _. refl;
      }))
      (λ l. inl (record {
        word = words.zeros (reference_word k) (λ f less e. omega (arith, e, less, most))
            (λ f less e. omega (arith, e, less, l));
        dead = λ t y. omega (arith, (super_only b first.opening t k y).1, l);
        unheld = λ t y. held_none t k y near (λ less. absurd (omega (arith, less, l)));
        unowed = λ t y. refl;
      }))

  first_numbers : Numbers b idle (number O)
  first_numbers = record {
    lawful = first.lawful;
    word = λ f near. subst (NumberOk b idle f) (sym (number_is f near)) (record {
      current = λ _. refl;
      marks = current_marks b f;
      is = current_is b first.lawful f;
      other = λ z. absurd (omega arith);
      last = λ big t of. inl (current_newest b first.lawful f big t of);
      first = λ z. absurd (omega arith);
      ends = current_ends b first.lawful f;
    });
    top = λ f near z. absurd (omega arith);
    default = λ z. absurd (omega (arith, z));
    based = based-first b first.opening;
  }

  says : (c : ℕ) → c < 64 → (f : FirstCell cell n c xs) → Says b (v ∷ []) c (cell f.it)
  says c near f = by_less c n
      (λ l. let y = some-at b.families c l in
      has_rows (record {
        id = suc c;
        it = first_memtable b.journal c;
        at = first.opening.memtables c y.0 y.1;
        live = refl;
        is = refl;
      })
      (f.has l ∙ ap (λ rows. Some (record { id = suc c; rows = rows }))
      (sym (ap rows_of (bears_none b first.opening c)))))
      (λ l. is_vacant
      (λ o. let m = nth_memtable b first.opening o.id o.it o.at in
      omega (
        arith,
        sym (ap (λ (z : Memtable). z.cell) m.is) ∙ o.is,
        l,
        get_lt b.families m.index m.family m.family_at,
      ))
      (f.vacant l))

  none_cached : (l f : ℕ) → (cached_at (v ∷ []) l f ≡ 0) × (slot_at (v ∷ []) l f ≡ away)
  none_cached zero f = (refl, refl)
  none_cached (suc l) f = (refl, refl)

  pub starts : Kept books disk cell body O
  starts = record {
    b = b;
    work = idle;
    start = record { disk = d; books = b };
    d = d;
    home = record {
      seats = record {
        words = words.long;
        homes = length-map xs (λ z. some z) ∙ slots.long;
        given = lanes_made;
        few = few;
        views = omega (arith, one);
        told = each_one (λ j u. u.seat.spent ≡ false → u.seat.lanes ≡ lanes_made) v (λ _. refl);
        made = each_one (λ j u. 0 < u.seat.made → (j ≡ 0) × (u.seat.made ≡ 1)) v (λ _. (refl, refl));
        ordered = each_one (λ j u. u.seat.spent ≡ false → u.known.lane ≡ j) v (λ _. refl);
        slots = each_one (λ j u. length u.slots.slot ≤ 16) v (omega arith);
        spent = each_one (λ j u. u.seat.spent ≡ true → u ≡ nobody) v (λ z. absurd (true_not (sym z)));
        joined = refl;
        below = each_one (λ j u. Every (λ o. o.known.lane < 1) u.joined) v (every_none (λ o. o.known.lane < 1));
        once = λ l. omega (arith, same_le l 0);
      };
      db = record {
        bit = sym (lock_zero 0 (omega arith));
        one = omega (arith, lock_zero 0 (omega arith));
        home = λ _. (
          is.State slots.state,
          at_home 0 (is.State slots.state) slots.state_at,
          (slots.state, refl, slots.books_are, refl),
        );
        out = λ e. absurd (omega (arith, lock_zero 0 (omega arith), e));
      };
      desks = each_one (λ j u. (k : Desk) → u.locks.db ≡ Some k → (k.books ≡ b) × (k.work ≡ idle)) v
          (λ k e. absurd (none_some k e));
      dir = record {
        bit = sym (lock_zero 1 (omega arith));
        one = omega (arith, lock_zero 1 (omega arith));
        home = λ _. (is.Dir slots.dir, at_home 1 (is.Dir slots.dir) slots.dir_at, (slots.dir, refl, slots.disk_is));
        out = λ e. absurd (omega (arith, lock_zero 1 (omega arith), e));
      };
      disks = each_one (λ j u. (k : Disk) → u.locks.dir ≡ Some k → k ≡ d) v (λ k e. absurd (none_some k e));
      slots = λ i l. record {
        empty = λ _. at_home (slot_home i) is.Nothing (slots.nothing i l);
        out = λ y. absurd (omega (arith, slot_zero i l, y));
        cached = λ y. absurd (omega (arith, slot_zero i l, y));
        marks = λ _. omega (arith, slot_zero i l);
      };
    };
    ledger = record { places = places; hands = each_one (λ j u. length u.hand ≤ most_hand) v (omega arith) };
    numbers = first_numbers;
    rounds = record {
      moved = 16;
      begun_none = λ _. omega arith;
      greatest = λ z. absurd (omega arith);
      sum = round_zero;
      bound = omega (
        arith,
        round_zero,
        below-upto (has_current b) n 16 (λ k. has_current_le b k)
            (λ k near l. has_current_none b k (current_none b first.opening k l)),
        first.opening.supers_made,
      );
      low = each_one (λ j u. u.known.round ≤ word O 82) v (omega arith);
      loaded = each_one (λ j u. u.known.round ≡ word O 82 → Every (Loaded b idle 16 (number O)) u.loads) v
          (λ _. every_none (Loaded b idle 16 (number O)));
    };
    sweep = record {
      right = λ l f low near. let z = slot_zero (spot l f) (omega (arith, low, near)) in let c = none_cached l f in
          record {
            empty = λ _. omega (arith, ap lent c.1);
            full = λ w. absurd (omega (arith, z, w));
            out = λ w. absurd (omega (arith, z, w));
            cached = λ w. absurd (omega (arith, z, w));
            fitting = λ w. absurd (omega (arith, z, w));
            used = λ w. absurd (omega (arith, z, w));
            away = λ _ big. absurd (omega (arith, c.0, big));
            none = λ w. c.0;
          };
      apart = tt;
      stock = each_one (λ j u. (k : Desk) → u.locks.db ≡ Some k → Stock k.books k.work u.hand) v
          (λ k e. absurd (none_some k e));
    };
    fresh = each_one (λ j u. FreshIn b (number O) u) v (λ f near. fresh_none b (number O f) f);
    held = record {
      cells = λ c near. let f = slots.cells c near in record {
        bit = sym (lock_zero (cell_word c) (omega (arith, near)));
        one = omega (arith, lock_zero (cell_word c) (omega (arith, near)));
        home = λ _. (is.Cell f.it, at_home (cell_word c) (is.Cell f.it) f.at, (f.it, refl, says c near f));
        out = λ e. absurd (omega (arith, lock_zero (cell_word c) (omega (arith, near)), e));
      };
      lent = each_one (λ j u. (h : CellHeld) → u.locks.cell ≡ Some h → IsLent b (v ∷ []) h) v
          (λ h e. absurd (none_some h e));
      files = files-first lanes_made b d first;
      bodies = λ i r l e. absurd (no_ref r (sym (at_home (slot_home i) is.Nothing (slots.nothing i l)) ∙ e));
    };
    in_hand = work-first lanes_made b d first (number O) (λ f z. omega arith);
  }
