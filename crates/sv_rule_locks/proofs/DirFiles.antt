-- What the directory's files are after a lane changed one of its own.
-- the number is the lane's, so it is no other's, and it is Pending or Grabbed
use Rattle.std.proofs.Common.{Bool, List, None, Option, Some, ap, arith, cond, false, refl, set, slice_get, subst, sym, true, ℕ, ⊎_elim, ◌%◌, ◌+◌, ◌/◌, ◌<◌, ◌^◌, ◌∙◌, ◌≡◌, ◌≢◌, ◌≤◌}
use Rattle.std.specs.FinMap as finite
use Rattle.std.specs.Prelude.{IsSomeAnd}
use mathlib.Core.Logic.{dite}
use mathlib.Core.Option.{some}
use native.Mathlib.Decide.{ℕ_discrete}
use lib.ListN.{get_elem?}
use Rattle.sv_model.specs.Books.{Books}
use Rattle.sv_model.specs.Files.{Files, file_name, file_of, with_file}
use Rattle.sv_model.specs.HeldFiles.{HasItsText, IsFileText}
use Rattle.sv_model.specs.Lawful.{Lawful}
use Rattle.sv_model.specs.Lists.{Every, In, same, total}
use Rattle.sv_model.specs.Numbers.{having, is_grabbed, is_live, is_pending, registered}
use Rattle.sv_model.specs.Reads.{IsCapturedFor}
use Rattle.sv_model.specs.Registers.{EachEntry, Has, change}
use Rattle.sv_model.specs.Summaries.{is_gone, is_obsolete}
use Rattle.sv_model.specs.TableText.{covers}
use Rattle.sv_model.specs.declared.records.Version.{Version}
use Rattle.sv_model.proofs.FlatFirsts.{marks}
use Rattle.sv_model.proofs.Lists.{total_at}
use Rattle.sv_rule.specs.Fits.{BodyFits, Fits, ReadFits}
use Rattle.sv_rule.specs.Held.{FilesHeld}
use Rattle.sv_rule.specs.InHand.{IsThere, WorkHeld}
use Rattle.sv_rule.specs.LockPlays.{ChangesOwn, DirChange, HasRef, IsOwnRead, MarksTask}
use Rattle.sv_model.specs.Supers.{LiveAt}
use Rattle.sv_model.specs.Tasks.{grabs, has_output, marks_of, output_count, Mark, Output, Task}
use Rattle.sv_rule.specs.Table.{number}
use Rattle.sv_rule.specs.Views.{Disk, FileRead, LaneView, Start, Work}
use Rattle.sv_rule.proofs.Basics.{each_other, get_none, some_is}
use Rattle.sv_rule_locks.proofs.FileNames.{file-else, file-here, get-with_file, name_apart}
use Rattle.sv_rule.proofs.FileTurns.{absent-gone, gone-absent}
use Rattle.sv_rule.proofs.LaterBooks.{get-map}
use Rattle.sv_rule.proofs.RefLaws.{body-big, body-live, names-live}
use Rattle.sv_rule.proofs.Statuses.{live-having, registered-has, statuses}
use Rattle.sv_rule.proofs.StepLaws.{view_le}
use Rattle.sv_rule.proofs.Sums.{same_one, terms_le}

module _ (b : Books) (work : Work) (start : Start) (disk : Disk) (number : ℕ → ℕ) (vs : List LaneView) (id : ℕ)
    (v : LaneView) (me : get_elem? vs id ≡ some v) (lawful : Lawful b) (held : WorkHeld b work start disk number vs)
    (n : ℕ) (own : 1 ≤ has_output n v.known.task + grabs n v.known.task) where
  pub in-hand : 1 ≤ having is_pending n b.files.numbers + having is_grabbed n b.files.numbers
  in-hand = omega (
    arith,
    view_le (λ (x : LaneView). has_output n x.known.task) vs id v me,
    view_le (λ (x : LaneView). grabs n x.known.task) vs id v me,
    held.outputs n,
    held.grabbed n,
  )

  one_status : having is_pending n b.files.numbers + having is_live n b.files.numbers + having is_obsolete n
      b.files.numbers + having is_grabbed n b.files.numbers + having is_gone n b.files.numbers ≤ 1
  one_status = omega (arith, statuses n b.files.numbers, lawful.numbers.once n)

  pub not-live : (m : ℕ) → 1 ≤ having is_live m b.files.numbers → m ≢ n
  not-live m h e = omega (arith, in-hand, one_status, ap (λ k. having is_live k b.files.numbers) e)

  pub not-there : (m : ℕ) → IsThere b m → m ≢ n
  not-there m h e = omega (
    arith,
    in-hand,
    one_status,
    ap (λ k. having is_live k b.files.numbers) e,
    ap (λ k. having is_obsolete k b.files.numbers) e,
  )

  pub not-gone : (m : ℕ) → 1 ≤ having is_gone m b.files.numbers → m ≢ n
  not-gone m h e = omega (arith, in-hand, one_status, ap (λ k. having is_gone k b.files.numbers) e)

  pub not-others : (j : ℕ) (x : LaneView) → j ≢ id → get_elem? vs j ≡ some x
      → has_output n x.known.task + grabs n x.known.task ≡ 0
  not-others j x ne at_x = omega (
    arith,
    terms_le (λ (y : LaneView). has_output n y.known.task) vs id j v x ne me at_x,
    terms_le (λ (y : LaneView). grabs n y.known.task) vs id j v x ne me at_x,
    held.outputs n,
    held.grabbed n,
    one_status,
    own,
  )

-- numbers fit into 64 bits
small : (b : Books) → Lawful b → (n : ℕ) → 1 ≤ registered n b.files.numbers → n < 2 ^ 64
small b lawful n h = let r = registered-has n b.files.numbers h in
    omega (arith, lawful.numbers.below r.0 r.1 r.2, r.3, lawful.numbers.most)

pub some-and-has : {A : Type 0} (o : Option A) (P : A → Type 0) → IsSomeAnd o P → (x : A) × (o ≡ Some x) × P x
some-and-has None P h = absurd h
some-and-has (Some x) P h = (x, refl, h)

-- the text of a number whose file is as it was
text-same : (b : Books) (files now : Files) (m : ℕ) → file_of m now ≡ file_of m files → HasItsText b files m
    → HasItsText b now m
text-same b files now m same h f meta captured covers number =
    subst (λ o. IsSomeAnd o (IsFileText b.journal f meta))
    (ap (λ k. file_of k files) number ∙ sym same ∙ ap (λ k. file_of k now) (sym number))
    (h f meta captured covers number)

grabs-in : (marks : List Mark) (i : ℕ) (k : Mark) → slice_get marks i ≡ Some k
    → 1 ≤ total (λ x. same k.number x.number) marks
grabs-in marks i k e = omega (
  arith,
  total_at (λ (x : Mark). same k.number x.number) marks i k e,
  same_one k.number k.number refl,
)

module _ (b : Books) (work : Work) (start : Start) (disk : Disk) (number : ℕ → ℕ) (vs : List LaneView) (id : ℕ)
    (v w : LaneView) (me : get_elem? vs id ≡ some v) (alive : v.seat.spent ≡ false) (lawful : Lawful b)
    (held : WorkHeld b work start disk number vs) (fits : Fits b v.known)
    (marks : MarksTask v.known.task w.known.task) where
  abbrev t : Task
  t = v.known.task

  abbrev u : Task
  u = w.known.task

  abbrev ws : List LaneView
  ws = set vs id w

  -- the numbers of which the rule speaks are registered
  live_small : (m : ℕ) → 1 ≤ having is_live m b.files.numbers → m < 2 ^ 64
  live_small m h = small b lawful m (omega (arith, h, statuses m b.files.numbers))

  gone_small : (m : ℕ) → 1 ≤ having is_gone m b.files.numbers → m < 2 ^ 64
  gone_small m h = small b lawful m (omega (arith, h, statuses m b.files.numbers))

  there_small : (m : ℕ) → IsThere b m → m < 2 ^ 64
  there_small m h = small b lawful m (omega (arith, h, statuses m b.files.numbers))

  hand_small : (j : ℕ) (x : LaneView) → get_elem? vs j ≡ some x → (m : ℕ)
      → 1 ≤ has_output m x.known.task + grabs m x.known.task → m < 2 ^ 64
  hand_small j x at_x m h = small b lawful m (omega (
    arith,
    in-hand b work start disk number vs j x at_x lawful held m h,
    statuses m b.files.numbers,
  ))

  listed_there : (j : ℕ) (x : LaneView) → get_elem? vs j ≡ some x → x.seat.spent ≡ false → (n : ℕ)
      → In n x.known.task.listed → (q : Bool) → x.known.task.quiet ≡ q → IsThere b n
  listed_there j x at_x e n has true q = (held.quiet j x at_x e q).listed has.at n has.is
  listed_there j x at_x e n has false q = absurd (get_none has.at n
      (ap (λ (z : List ℕ). slice_get z has.at) (sym (held.loud j x at_x q)) ∙ has.is))

  output_counts : (x : LaneView) (o : Output) → x.known.task.output ≡ Some o → has_output o.meta.number x.known.task ≡ 1
  output_counts x o e = ap (output_count o.meta.number) e ∙ same_one o.meta.number o.meta.number refl

  -- What stays where no other number's file changes.
  files_else : (first files now : Files) → DirChange v u files now → FilesHeld b first files vs
      → ((m : ℕ) → 1 ≤ having is_live m b.files.numbers → file_of m now ≡ file_of m files)
      → ((m : ℕ) → IsThere b m → file_of m now ≡ file_of m files)
      → ((m : ℕ) → 1 ≤ having is_gone m b.files.numbers → file_of m now ≡ file_of m files)
      → ((j : ℕ) (x : LaneView) → j ≢ id → get_elem? vs j ≡ some x → (m : ℕ)
      → 1 ≤ has_output m x.known.task + grabs m x.known.task → file_of m now ≡ file_of m files)
      → ((k : Mark) → In k (marks_of t.job) → k.taken ≡ true → file_of k.number now ≡ None)
      → ((name : List ℕ) → EachEntry (λ i x. file_name x.number ≡ name → ⊥) b.files.numbers
      → finite.get now name ≡ finite.get files name)
      → FilesHeld b first now ws
  files_else first files now change h lives there gone_ones hands mine others = record {
    hold = record {
      live = λ m l. text-same b files now m (lives m (live-having m b.files.numbers l)) (h.hold.live m l);
      gone = absent-gone b.files.numbers now (λ m g. gone_ones m g ∙ gone-absent b.files.numbers files h.hold.gone m g);
      others = λ name unnamed. others name unnamed ∙ h.hold.others name unnamed;
    };
    written = each_other (λ j x. (o : Output) → x.known.task.output ≡ Some o → o.written ≡ true
        → HasItsText b now o.meta.number) vs id w
        (λ o e wr. ⊎_elim
        (λ (q : (t.output ≡ Some o) × (file_of o.meta.number now ≡ file_of o.meta.number files)). text-same b files
        now o.meta.number q.1 (h.written id v me o q.0 wr))
        (λ (q : (c : Books) → Fits c v.known → HasItsText c now o.meta.number). q b fits)
        (change.written o e wr))
        (λ j x ne at_x o e wr. text-same b files now o.meta.number
        (hands j x ne at_x o.meta.number (omega (arith, output_counts x o e))) (h.written j x at_x o e wr));
    listed = each_other (λ j x. x.seat.spent ≡ false → Every (HasItsText b now) x.known.task.listed) vs id w
        (λ _ i n e. let was = ap (λ (z : List ℕ). slice_get z i) (sym marks.listed) ∙ e in
        text-same b files now n (there n (listed_there id v me alive n (record { at = i; is = was }) t.quiet
        refl)) (h.listed id v me alive i n was))
        (λ j x ne at_x s i n e. text-same b files now n
        (there n (listed_there j x at_x s n (record { at = i; is = e }) x.known.task.quiet refl))
        (h.listed j x at_x s i n e));
    taken = each_other (λ j x. Every (λ k. k.taken ≡ true → file_of k.number now ≡ None) (marks_of x.known.task.job))
        vs id w
        (λ i k e tk. ⊎_elim (λ (q : In k (marks_of t.job)). mine k q tk) (λ q. q)
        (change.taken k (record { at = i; is = e }) tk))
        (λ j x ne at_x i k e tk. hands j x ne at_x k.number
        (omega (arith, grabs-in (marks_of x.known.task.job) i k e)) ∙ h.taken j x at_x i k e tk);
  }

  pub files-dir : (first files now : Files) → DirChange v u files now → FilesHeld b first files vs
      → FilesHeld b first now ws
  files-dir first files now change h = ⊎_elim
      (λ (e : now ≡ files). let keeps_file : (m : ℕ) → file_of m now ≡ file_of m files = λ m. ap (file_of m) e in
      files_else first files now change h (λ m _. keeps_file m) (λ m _. keeps_file m) (λ m _. keeps_file m)
      (λ j x _ _ m _. keeps_file m)
      (λ k q tk. keeps_file k.number ∙ h.taken id v me q.at k q.is tk) (λ name _. ap (λ f. finite.get f name) e))
      (λ (c : ChangesOwn t files now).
      let n = c.number in
      let fits_n = hand_small id v me n c.own in
      let mine = in-hand b work start disk number vs id v me lawful held n c.own in
      let else : (m : ℕ) → m < 2 ^ 64 → m ≢ n → file_of m now ≡ file_of m files = λ m s ne. ap (file_of m) c.is
      ∙ file-else m n c.content files s fits_n ne in
      files_else first files now change h
      (λ m l. else m (live_small m l) (not-live b work start disk number vs id v me lawful held n c.own m l))
      (λ m l. else m (there_small m l) (not-there b work start disk number vs id v me lawful held n c.own m l))
      (λ m l. else m (gone_small m l) (not-gone b work start disk number vs id v me lawful held n c.own m l))
      (λ j x ne at_x m q. else m (hand_small j x at_x m q)
      (λ e. omega (
        arith,
        not-others b work start disk number vs id v me lawful held n c.own j x ne at_x,
        q,
        ap (λ z. has_output z x.known.task) e,
        ap (λ z. grabs z x.known.task) e,
      )))
      (λ k q tk. let inside = grabs-in (marks_of t.job) q.at k q.is in dite (ℕ_discrete k.number n)
      (λ e. let none_left : c.content ≡ None = c.removes (omega (arith, inside, ap (λ z. grabs z t) e)) in
      ap (file_of k.number) c.is ∙ ap (λ z. file_of k.number (with_file (file_name z) c.content files)) (sym e)
      ∙ file-here k.number c.content files ∙ none_left)
      (λ ne. else k.number (hand_small id v me k.number (omega (arith, inside))) ne ∙ h.taken id v me q.at k q.is tk))
      (λ name unnamed. ap (λ f. finite.get f name) c.is ∙ get-with_file (file_name n) c.content files name
      ∙ ap (λ z. cond z c.content (finite.get files name)) (name_apart name (file_name n) (λ e.
      let r = registered-has n b.files.numbers (omega (arith, mine, statuses n b.files.numbers)) in
      unnamed r.0 r.1 r.2 (ap file_name r.3 ∙ sym e)))))
      change.changed

-- ---- what a read gives

pub read-fits : (b : Books) (first files : Files) (vs : List LaneView) (v : LaneView) → Lawful b
    → Every (BodyFits b) v.known.bodies → ((p : ℕ) → 256 ≤ p → HasRef v p → LiveAt b.supers (p / 256) (p % 256))
    → FilesHeld b first files vs → (x : FileRead) → IsOwnRead v files x → ReadFits b x
read-fits b first files vs v lawful bodies refs held x r =
    let t = bodies r.has.at r.body r.has.is in
    let live = body-live b r.body t (refs r.body.pack (body-big b r.body t) r.held) in
    let d = lawful.descriptors t.serial t.super t.at live in
    let names = names-live b lawful t.serial t.super t.at live in
    let version : d.version ≡ t.fits.version = some_is (sym d.version_at ∙ t.fits.version_at) in
    let at_d : slice_get d.version.files r.of.at ≡ Some r.file = ap (λ (z : Version). slice_get z.files r.of.at)
    version ∙ ap (λ l. slice_get l r.of.at) (sym t.files) ∙ r.of.is in
    let file = d.files.each r.of.at r.file at_d in
    let number = names.files r.file.number d.version d.version_at
    (record { at = r.of.at; is = get-map (λ f. f.number) d.version.files r.of.at r.file at_d }) in
    let text = some-and-has (file_of r.file.number files) (IsFileText b.journal t.super.descriptor.family r.file)
    (held.hold.live r.file.number number t.super.descriptor.family r.file file.captured file.covers refl) in
    record {
      family = t.super.descriptor.family;
      captured = subst (λ n. Has (IsCapturedFor t.super.descriptor.family n) b.files.numbers) (sym r.number)
          file.captured;
      file = r.file;
      covers = file.covers;
      number = sym r.number;
      bytes = text.0;
      given = r.bytes ∙ ap (λ n. file_of n files) r.number ∙ text.1;
      text = text.2;
    }
