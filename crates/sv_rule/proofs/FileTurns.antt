-- The files of the directory stand where the books in hand change.
use Rattle.std.proofs.Common.{Bool, List, None, Option, Some, ap, arith, false, refl, set, slice_get, subst, sym, true, ℕ, ⊎_elim, ◌∙◌, ◌≡◌, ◌≤◌}
use Rattle.std.specs.Prelude.{IsSomeAnd, is_some}
use mathlib.Core.Option.{some}
use lib.ListN.{get_elem?}
use Rattle.sv_model.specs.After.{After}
use Rattle.sv_model.specs.Books.{Books}
use Rattle.sv_model.specs.Files.{Files, file_name, file_of}
use Rattle.sv_model.specs.HeldFiles.{GoneAreAbsent, HasItsText, HoldsText, IsFileText}
use Rattle.sv_model.specs.Lawful.{Lawful}
use Rattle.sv_model.specs.Lists.{Every, In, at}
use Rattle.sv_model.specs.Numbers.{having, is_live, is_pending, registered}
use Rattle.sv_model.specs.Summaries.{is_gone}
use Rattle.sv_model.specs.TableText.{covers}
use Rattle.sv_model.specs.declared.records.RegisteredFile.{RegisteredFile}
use Rattle.sv_model.specs.declared.writes.Write.{Write}
use Rattle.sv_rule.specs.Held.{FilesHeld, Told}
use Rattle.sv_rule.specs.InHand.{IsThere, WorkHeld}
use Rattle.sv_model.specs.Tasks.{has_output, marks_of, output_count, Output, Task}
use Rattle.sv_model.specs.Turns.{IsWritten, Turns, taken_mark}
use Rattle.sv_rule.specs.Table.{number}
use Rattle.sv_rule.specs.Views.{Disk, LaneView, Start, Work}
use Rattle.sv_rule.proofs.Basics.{each_set, get_none}
use Rattle.sv_rule.proofs.FitLaws.{text-stays}
use Rattle.sv_rule.proofs.LaterBooks.{in-more}
use Rattle.sv_model.proofs.Metas.{covered, one-meta}
use Rattle.sv_rule.proofs.Statuses.{gone-having, gone-registered, live-having, live-registered, once-same, registered-has, statuses}
use Rattle.sv_rule.proofs.StepLaws.{view_le}
use Rattle.sv_rule.proofs.Sums.{same_one}

pub some-and-map : {A : Type 0} (o : Option A) (P Q : A → Type 0) → ((x : A) → P x → Q x) → IsSomeAnd o P
    → IsSomeAnd o Q
some-and-map None P Q f h = h
some-and-map (Some x) P Q f h = f x h

pub told-map : (R Q : Files → Files → Type 0) → ((a b : Files) → R a b → Q a b) → (x y : Option Files) → Told R x y
    → Told Q x y
told-map R Q f None None h = h
told-map R Q f None (Some y) h = h
told-map R Q f (Some x) None h = h
told-map R Q f (Some x) (Some y) h = f x y h

-- what a number's file is goes on to be so
pub has-text-stays : (a b : Books) → Lawful a → Lawful b → After a b → (files : Files) (n : ℕ)
    → 1 ≤ registered n a.files.numbers → HasItsText a files n → HasItsText b files n
has-text-stays a b before lawful later files n one text f meta captured covers number =
    let r = registered-has n a.files.numbers one in
    let y = later.numbers r.0 r.1 r.2 in
    let x = captured.1 in
    let e : x ≡ y.0 = once-same b.files.numbers n captured.0 r.0 x y.0 (lawful.numbers.once n) captured.2 y.1
    captured.3.number_is (y.2.number ∙ r.3) in
    let family : r.1.family ≡ Some f = sym y.2.family ∙ ap (λ (z : RegisteredFile). z.family) (sym e)
    ∙ captured.3.family_is in
    let c = covered a.files.numbers a.files.captured a.files.next a.metas before.numbers before.metas r.0 r.1 r.2
    (ap (λ (o : Option ℕ). is_some o) family) in
    let m : c.0 ≡ meta = one-meta b.files.numbers b.files.captured b.files.next b.metas lawful.numbers lawful.metas
    c.0 meta (in-more a.metas b.metas later.metas c.0 c.1) covers (c.2 ∙ r.3 ∙ sym number) in
    let old : HoldsText files a.journal f c.0 = text f c.0
    (r.0, r.1, r.2, record { number_is = r.3; family_is = family }) c.1 (c.2 ∙ r.3) in
    subst (HoldsText files b.journal f) m (some-and-map (file_of c.0.number files) (IsFileText a.journal f c.0)
    (IsFileText b.journal f c.0) (text-stays a.journal b.journal later.journal f c.0) old)

-- what is Gone has no file, said of numbers
pub gone-absent : (numbers : List RegisteredFile) (files : Files) → GoneAreAbsent numbers files → (n : ℕ)
    → 1 ≤ having is_gone n numbers → file_of n files ≡ None
gone-absent numbers files h n g = let k = gone-registered n numbers g in ap (λ m. file_of m files) (sym k.3.number_is)
    ∙ h k.0 k.1 k.2 k.3.status_is

pub absent-gone : (numbers : List RegisteredFile) (files : Files)
    → ((n : ℕ) → 1 ≤ having is_gone n numbers → file_of n files ≡ None) → GoneAreAbsent numbers files
absent-gone numbers files h i x at is = h x.number (gone-having x.number numbers
    (i, x, at, record { number_is = refl; status_is = is }))

module _ (a b : Books) (work : Work) (start : Start) (disk : Disk) (number : ℕ → ℕ) (vs : List LaneView) (id : ℕ)
    (v w : LaneView) (l : ℕ) (more : List Write)
    (me : get_elem? vs id ≡ some v) (before : Lawful a) (alive : v.seat.spent ≡ false)
    (c : Turns l a v.known.task b w.known.task more) (held : WorkHeld a work start disk number vs) where
  abbrev t : Task
  t = v.known.task

  abbrev ws : List LaneView
  ws = set vs id w

  pub output-registered : (j : ℕ) (x : LaneView) (o : Output) → get_elem? vs j ≡ some x → x.known.task.output ≡ Some o
      → 1 ≤ having is_pending o.meta.number a.files.numbers
  output-registered j x o at_x e = omega (
    arith,
    view_le (λ (y : LaneView). has_output o.meta.number y.known.task) vs j x at_x,
    held.outputs o.meta.number,
    ap (output_count o.meta.number) e,
    same_one o.meta.number o.meta.number refl,
  )

  listed-there : (j : ℕ) (x : LaneView) → get_elem? vs j ≡ some x → x.seat.spent ≡ false → (n : ℕ)
      → In n x.known.task.listed → (q : Bool) → x.known.task.quiet ≡ q → IsThere a n
  listed-there j x at_x e n has true q = (held.quiet j x at_x e q).listed has.at n has.is
  listed-there j x at_x e n has false q = absurd (get_none has.at n
      (ap (λ (z : List ℕ). slice_get z has.at) (sym (held.loud j x at_x q)) ∙ has.is))

  stays : (files : Files) (n : ℕ) → 1 ≤ registered n a.files.numbers → HasItsText a files n → HasItsText b files n
  stays files n = has-text-stays a b before c.counts.lawful c.counts.later files n

  pub files-turn : (first files : Files) → FilesHeld a first files vs → FilesHeld b first files ws
  files-turn first files h = record {
    hold = record {
      live = λ n g. lives n (live-having n b.files.numbers g);
      gone = absent-gone b.files.numbers files (λ n g. ⊎_elim (gone-absent a.files.numbers files h.hold.gone n)
          (λ (k : In (taken_mark n) (marks_of t.job)). h.taken id v me k.at (taken_mark n) k.is refl) (c.gone n g));
      others = λ name unnamed. h.hold.others name (λ i x at e. let y = c.counts.later.numbers i x at in
          unnamed i y.0 y.1 (ap file_name y.2.number ∙ e));
    };
    written = each_set (λ j x. (o : Output) → x.known.task.output ≡ Some o → o.written ≡ true
        → HasItsText b files o.meta.number) vs id w
        (λ o e wr. let was = c.written o e wr in stays files o.meta.number (registered_output id v o me was)
        (h.written id v me o was wr))
        (λ j x at_x o e wr. stays files o.meta.number (registered_output j x o at_x e) (h.written j x at_x o e wr));
    listed = each_set (λ j x. x.seat.spent ≡ false → Every (HasItsText b files) x.known.task.listed) vs id w
        (λ _ i n e. ⊎_elim
        (λ (old : In n t.listed). stays files n (registered_there n (listed-there id v me alive n old t.quiet refl))
        (h.listed id v me alive old.at n old.is))
        (lives n) (c.counts.listed i n e))
        (λ j x at_x s i n e. stays files n (registered_there n
        (listed-there j x at_x s n (record { at = i; is = e }) x.known.task.quiet refl))
        (h.listed j x at_x s i n e));
    taken = each_set (λ j x. Every (λ k. k.taken ≡ true → file_of k.number files ≡ None) (marks_of x.known.task.job))
        vs id w
        (λ i k e tk. let old = c.marks k (record { at = i; is = e }) tk in h.taken id v me old.at k old.is tk)
        h.taken;
  }
    where
      registered_output : (j : ℕ) (x : LaneView) (o : Output) → get_elem? vs j ≡ some x → x.known.task.output ≡ Some o
          → 1 ≤ registered o.meta.number a.files.numbers
      registered_output j x o at_x e = omega (
        arith,
        output-registered j x o at_x e,
        statuses o.meta.number a.files.numbers,
      )

      registered_there : (n : ℕ) → IsThere a n → 1 ≤ registered n a.files.numbers
      registered_there n there = omega (arith, there, statuses n a.files.numbers)

      lives : (n : ℕ) → 1 ≤ having is_live n b.files.numbers → HasItsText b files n
      lives n live = ⊎_elim
          (λ (old : 1 ≤ having is_live n a.files.numbers). stays files n (omega (arith, statuses n a.files.numbers))
          (h.hold.live n (live-registered n a.files.numbers old)))
          (λ (o : IsWritten t n). subst (HasItsText b files) o.number
          (stays files o.it.meta.number (registered_output id v o.it me o.is)
          (h.written id v me o.it o.is o.written)))
          (c.live n live)
