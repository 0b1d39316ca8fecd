-- The tests' state stands through calls that make no SuperVersion.
use Rattle.std.proofs.Common.{◌≡◌, ◌≢◌, ◌≤◌, ◌+◌, ◌*◌, ◌∷◌, ◌++◌, ⊎_elim, ℕ, zero, suc, true, false, List, [], length, set, Option, Some, None, refl, sym, ap, ◌∙◌, subst, arith, length-set, slice_index_or}
use Rattle.std.proofs.lemmas.Option.{get_or_from_slice_get}
use Rattle.std.specs.Prelude.{IfOk, OnErr, Ok, Err, Result, slice_get}
use mathlib.Core.Logic.{dite}
use native.Mathlib.Decide.{ℕ_discrete}
use Rattle.sv_model.specs.declared.records.Family.{Family}
use Rattle.sv_model.specs.declared.records.FileMeta.{FileMeta}
use Rattle.sv_model.specs.declared.records.SuperVersion.{SuperVersion}
use Rattle.sv_model.specs.declared.records.Top.{Top}
use Rattle.sv_model.specs.declared.refusals.Refusal.{Refusal}
use Rattle.sv_model.specs.declared.writes.Row.{Row}
use Rattle.sv_model.specs.declared.writes.Write.{Write}
use Rattle.sv_model.specs.Books.{Books, FileRegister}
use Rattle.sv_model.specs.Cells.{Cell}
use Rattle.sv_model.specs.Families.{is_retired}
use Rattle.sv_model.specs.Journal.{borne_by, row_of, rows_of}
use Rattle.sv_model.specs.Openings.{opening_books}
use Rattle.sv_model.specs.Registers.{entry}
use Rattle.sv_model.specs.Steady.{IsCurrent, Sound}
use Rattle.sv_model.proofs.Registers.{entry_change, entry-else}
use Rattle.sv_model.proofs.Entries.{get_none, get_one, some}
use Rattle.sv_laws.specs.Cleaning.{IsCleaned, without}
use Rattle.sv_laws.specs.Families.{IsDropped, IsOpened}
use Rattle.sv_laws.specs.Growing.{IsPlaced}
use Rattle.sv_laws.specs.Writes.{IsWritten}
use Rattle.sv_laws.proofs.BorneRows.{borne-other, borne-same}
use Rattle.sv_laws.proofs.GrownRegisters.{placed-set, placed_get}
use Rattle.sv_laws.proofs.Handles.{not-retired, not-retired-open}
use Rattle.sv_laws.proofs.OpenFamilies.{current-top, says}
use Rattle.sv_laws.proofs.Opened.{first-sound}
use Rattle.sv_state.specs.Currents.{OwnHaveCurrents}
use Rattle.sv_state.specs.Gone.{IsFree}
use Rattle.sv_state.specs.Seen.{StateSeen}
use Rattle.sv_state_bench.specs.Standing.{AreOutputs, AreWaiting, Stands, cell_of}

-- ---- beginnings

pub opening : (next : ℕ) → 1 ≤ next → next ≤ 18446744073709551615 → Stands (opening_books next) (cell_of [] 1 ∷ []) [] []
opening next low high = record {
  sound = first-sound next low high;
  currents = λ f x at stands.
      let h = get_one _ f x at in
      record { top = record { current = Some 1; last = 1 }; at = ap (λ n. slice_get (opening_books next).tops n) h.0; serial = 1; is = refl };
  jobs = refl;
  actives_are = λ f s x c. first f s x c (get_one _ f c.top c.at);
  many = refl;
  outputs_are = record { each = λ i x e. absurd (get_none i _ e); once = λ i j x y e. absurd (get_none i _ e) };
  waiting_are = record { free = λ i x e. absurd (get_none i _ e); once = λ i j x e. absurd (get_none i _ e) };
}
  where
    first : (f s : ℕ) (x : SuperVersion) → (c : IsCurrent (opening_books next).tops (opening_books next).supers f s x) → (f ≡ 0) × (c.top ≡ record { current = Some 1; last = 1 })
        → slice_get (cell_of [] 1 ∷ []) f ≡ Some (cell_of [] x.descriptor.active)
    first f s x c h =
        let s_is : 1 ≡ s = some (ap (λ (t : Top). t.current) (sym h.1) ∙ c.is) in
        let one = get_one _ 0 x (ap (entry (opening_books next).supers) s_is ∙ c.has) in
        ap (slice_get (cell_of [] 1 ∷ [])) h.0 ∙ ap (λ (y : SuperVersion). Some (cell_of [] y.descriptor.active)) (sym one.1)

pub own-currents : (b : Books) (A : List Cell) (O : List (Option FileMeta)) (W : List (Option ℕ)) → Stands b A O W → (lane : ℕ) (name : List ℕ) → OwnHaveCurrents b lane name
own-currents b A O W h lane name f x at own = h.currents f x at (not-retired x lane own.handle)

-- ---- only file numbers change, or snapshots

pub files-stand : (a : Books) (A : List Cell) (O P : List (Option FileMeta)) (W : List (Option ℕ)) → Stands a A O W → (F : FileRegister) (M : List FileMeta) → F.jobs ≡ 0
    → Sound (record a { files = F; metas = M }) → AreOutputs (record a { files = F; metas = M }) P → Stands (record a { files = F; metas = M }) A P W
files-stand a A O P W h F M jobs sound outs = record {
  sound = sound;
  currents = λ f x at st. let c = h.currents f x at st in record { top = c.top; at = c.at; serial = c.serial; is = c.is };
  jobs = jobs;
  actives_are = h.actives_are;
  many = h.many;
  outputs_are = outs;
  waiting_are = record { free = λ i p e. let w = h.waiting_are.free i p e in record { serial = w.serial; it = w.it; at = w.at; live = w.live; pack_is = w.pack_is; free = w.free }; once = h.waiting_are.once };
}

-- the outputs are as they were where the captured numbers are
pub outputs-stay : (a b : Books) (O : List (Option FileMeta)) → AreOutputs a O → b.files.captured ≡ a.files.captured → b.metas ≡ a.metas → AreOutputs b O
outputs-stay a b O h c m = record {
  each = λ i x e.
      let o = h.each i x e in
      (o.0, record { captured = ap (λ l. slice_get l o.0) c ∙ o.1.captured; covered = record { at = o.1.covered.at; is = ap (λ l. slice_get l o.1.covered.at) m ∙ o.1.covered.is } });
  once = h.once;
}

-- the same registers but for what nothing that is kept speaks of
pub same : (a b : Books) (A : List Cell) (O : List (Option FileMeta)) (W : List (Option ℕ)) → Stands a A O W → Sound b → b.journal ≡ a.journal → b.supers ≡ a.supers
    → b.families ≡ a.families → b.tops ≡ a.tops → b.metas ≡ a.metas → b.files.captured ≡ a.files.captured → b.files.jobs ≡ 0 → Stands b A O W
same a b A O W h sound journal supers families tops metas captured jobs = record {
  sound = sound;
  currents = λ f x at stands.
      let c = h.currents f x (ap (λ l. slice_get l f) (sym families) ∙ at) stands in
      record { top = c.top; at = ap (λ l. slice_get l f) tops ∙ c.at; serial = c.serial; is = c.is };
  jobs = jobs;
  actives_are = λ f s x c.
      h.actives_are f s x (record { top = c.top; at = ap (λ l. slice_get l f) (sym tops) ∙ c.at; is = c.is; has = ap (λ l. entry l s) (sym supers) ∙ c.has })
      ∙ ap (λ J. Some (cell_of J x.descriptor.active)) (sym journal);
  many = h.many ∙ ap length (sym families);
  outputs_are = outputs-stay a b O h.outputs_are captured metas;
  waiting_are = record {
    free = λ i p e.
        let w = h.waiting_are.free i p e in
        record {
          serial = w.serial;
          it = w.it;
          at = ap (λ l. entry l w.serial) supers ∙ w.at;
          live = w.live;
          pack_is = w.pack_is;
          free = λ f t at is. w.free f t (ap (λ l. slice_get l f) (sym tops) ∙ at) is;
        };
    once = h.waiting_are.once;
  };
}

-- a refused call
pub kept : (a b : StateSeen) (A : List Cell) (O : List (Option FileMeta)) (W : List (Option ℕ)) → Stands a.books A O W → b ≡ a → Stands b.books A O W
kept a b A O W h q = subst (λ (z : StateSeen). Stands z.books A O W) (sym q) h

-- ---- a family changes, and its current stands

pub one-family : (a b : Books) (A : List Cell) (O : List (Option FileMeta)) (W : List (Option ℕ)) (f : ℕ) (it y : Family) → Stands a A O W → Sound b → slice_get a.families f ≡ Some it
    → is_retired it ≡ false → b ≡ record a { families = set a.families f y } → Stands b A O W
one-family a b A O W f it y h sound at open_ is = subst (λ (z : Books). Stands z A O W) (sym is) (record {
  sound = subst Sound is sound;
  currents = λ g x e stands. dite (ℕ_discrete g f)
      (λ q. let c = h.currents f it at open_ in record { top = c.top; at = ap (slice_get a.tops) q ∙ c.at; serial = c.serial; is = c.is })
      (λ q. let c = h.currents g x (sym ((placed-set a.families f it y at).others g q) ∙ e) stands in record { top = c.top; at = c.at; serial = c.serial; is = c.is });
  jobs = h.jobs;
  actives_are = h.actives_are;
  many = h.many ∙ sym (length-set a.families f y);
  outputs_are = record { each = λ i x e. let o = h.outputs_are.each i x e in (o.0, record { captured = o.1.captured; covered = o.1.covered }); once = h.outputs_are.once };
  waiting_are = record { free = λ i p e. let w = h.waiting_are.free i p e in record { serial = w.serial; it = w.it; at = w.at; live = w.live; pack_is = w.pack_is; free = w.free }; once = h.waiting_are.once };
})

pub opened-stands : (a b : StateSeen) (A : List Cell) (O : List (Option FileMeta)) (W : List (Option ℕ)) → Stands a.books A O W → Sound b.books → (lane : ℕ) (r : Result ℕ Refusal)
    → IfOk r (λ id. IsOpened a.books b.books id lane) → OnErr r (b ≡ a) → Stands b.books A O W
opened-stands a b A O W h sound lane (Ok f) o k = one-family a.books b.books A O W f o.it _ h sound o.at (not-retired-open o.it o.stands) o.is
opened-stands a b A O W h sound lane (Err e) o k = kept a b A O W h k

pub dropped-stands : (a b : StateSeen) (A : List Cell) (O : List (Option FileMeta)) (W : List (Option ℕ)) → Stands a.books A O W → Sound b.books → (lane : ℕ) (r : Result ℕ Refusal)
    → IfOk r (λ id. IsDropped a.books b.books id lane) → OnErr r (b ≡ a) → Stands b.books A O W
dropped-stands a b A O W h sound lane (Ok f) o k = one-family a.books b.books A O W f o.it _ h sound o.at (not-retired o.it lane o.handle) o.is
dropped-stands a b A O W h sound lane (Err e) o k = kept a b A O W h k

-- ---- a cleanup

-- of what waits, this is what waits at other places
abbrev pub IsRest : List (Option ℕ) → ℕ → List (Option ℕ) → Type 0
IsRest W i V = (j p : ℕ) → slice_get V j ≡ Some (Some p) → (slice_get W j ≡ Some (Some p)) × (j ≢ i)

pub rest-set : (W : List (Option ℕ)) (i : ℕ) (x : Option ℕ) → slice_get W i ≡ Some x → IsRest W i (set W i None)
rest-set W i x e j p at = ⊎_elim
    (λ q. let z : Some p ≡ None = q.1 in absurd (cc))
    (λ q. (q.1, q.0))
    (placed_get W (set W i None) i None (placed-set W i x None e) j (Some p) at)

get-front : (V : List (Option ℕ)) (x : Option ℕ) (j : ℕ) (p : Option ℕ) → slice_get V j ≡ Some p → (slice_get (V ++ x ∷ []) j ≡ Some p) × (j ≢ length V)
get-front [] x j p e = absurd (get_none j p e)
get-front (v ∷ V) x zero p e = (e, λ q. omega (arith, q))
get-front (v ∷ V) x (suc j) p e = let h = get-front V x j p e in (h.0, λ q. h.1 (omega (arith, q)))

pub rest-front : (W V : List (Option ℕ)) (x : Option ℕ) → W ≡ V ++ x ∷ [] → IsRest W (length V) V
rest-front W V x is j p at =
    let h = get-front V x j (Some p) at in
    (ap (λ l. slice_get l j) is ∙ h.0, h.1)

pub last-get : (V : List (Option ℕ)) (x : Option ℕ) → slice_get (V ++ x ∷ []) (length V) ≡ Some x
last-get [] x = refl
last-get (v ∷ V) x = last-get V x

pub fewer-wait : (b : Books) (W : List (Option ℕ)) (i : ℕ) (V : List (Option ℕ)) → IsRest W i V → AreWaiting b W → AreWaiting b V
fewer-wait b W i V r h = record {
  free = λ j p e. h.free j p (r j p e).0;
  once = λ j k p d e. h.once j k p (r j p d).0 (r k p e).0;
}

module _ (a b : Books) (A : List Cell) (O : List (Option FileMeta)) (W : List (Option ℕ)) (h : Stands a A O W) (sound : Sound b) (i pack : ℕ) (waits : slice_get W i ≡ Some (Some pack))
    (s : ℕ) (x : SuperVersion) (pack_is : pack ≡ s * 256 + x.place) (g : IsCleaned a b s x) (V : List (Option ℕ)) (rest : IsRest W i V) where
  abbrev pub gone : Books
  gone = record a {
    supers = without a.supers s x;
    memtables = b.memtables;
    lists = b.lists;
    versions = b.versions;
    files = record a.files { numbers = b.files.numbers };
  }

  still : (f n : ℕ) (y : SuperVersion) → IsCurrent a.tops (without a.supers s x) f n y → IsCurrent a.tops a.supers f n y
  still f n y c = ⊎_elim
      (λ q. absurd (g.free f c.top c.at (c.is ∙ ap Some q.0)))
      (λ q. record { top = c.top; at = c.at; is = c.is; has = q.1 })
      (entry_change a.supers s n (record x { live = false }) y c.has)

  other : (j p : ℕ) → slice_get V j ≡ Some (Some p) → (w : IsFree a p) → w.serial ≢ s
  other j p e w q =
      let r = rest j p e in
      let it : w.it ≡ x = some (sym w.at ∙ ap (entry a.supers) q ∙ g.at) in
      let p_is : pack ≡ p = pack_is ∙ ap (λ (z : ℕ × SuperVersion). z.0 * 256 + z.1.place) (λ k. (sym q k, sym it k)) ∙ sym w.pack_is in
      r.1 (h.waiting_are.once j i p r.0 (waits ∙ ap (λ (z : ℕ). Some (Some z)) p_is))

  others-wait : AreWaiting gone V
  others-wait = record {
    free = λ j p e.
        let w = h.waiting_are.free j p (rest j p e).0 in
        record {
          serial = w.serial;
          it = w.it;
          at = entry-else a.supers s w.serial (record x { live = false }) (other j p e w) ∙ w.at;
          live = w.live;
          pack_is = w.pack_is;
          free = w.free;
        };
    once = (fewer-wait a W i V rest h.waiting_are).once;
  }

  pub cleaned-stands : Stands b A O V
  cleaned-stands = subst (λ (z : Books). Stands z A O V) (sym g.is) (record {
    sound = subst Sound g.is sound;
    currents = λ f x at st. let c = h.currents f x at st in record { top = c.top; at = c.at; serial = c.serial; is = c.is };
    jobs = h.jobs;
    actives_are = λ f n y c. h.actives_are f n y (still f n y c);
    many = h.many;
    outputs_are = record { each = λ k y e. let o = h.outputs_are.each k y e in (o.0, record { captured = o.1.captured; covered = o.1.covered }); once = h.outputs_are.once };
    waiting_are = others-wait;
  })

pub nothing-waits : (a : Books) (A : List Cell) (O : List (Option FileMeta)) (W : List (Option ℕ)) (i : ℕ) (V : List (Option ℕ)) → Stands a A O W → IsRest W i V → Stands a A O V
nothing-waits a A O W i V h r = record {
  sound = h.sound;
  currents = λ f x at st. let c = h.currents f x at st in record { top = c.top; at = c.at; serial = c.serial; is = c.is };
  jobs = h.jobs;
  actives_are = h.actives_are;
  many = h.many;
  outputs_are = h.outputs_are;
  waiting_are = fewer-wait a W i V r h.waiting_are;
}

-- ---- a write

rows-push : (l : List Write) (w : Write) → rows_of (l ++ w ∷ []) ≡ rows_of l ++ row_of w ∷ []
rows-push [] w = refl
rows-push (u ∷ l) w = ap (λ (r : List Row). row_of u ∷ r) (rows-push l w)

module _ (a b : Books) (A : List Cell) (O : List (Option FileMeta)) (W : List (Option ℕ)) (h : Stands a A O W) (sound : Sound b) (f : ℕ) (w : Write) (k : IsWritten a b f w) where
  abbrev pub grown : Cell
  grown = record { id = w.mem; rows = rows_of (borne_by w.mem a.journal) ++ row_of w ∷ [] }

  grown-is : grown ≡ cell_of (a.journal ++ w ∷ []) w.mem
  grown-is = ap (λ R. record { id = w.mem; rows = R }) (sym (rows-push (borne_by w.mem a.journal) w) ∙ ap rows_of (sym (borne-same a.journal w)))

  active-was : slice_get A f ≡ Some (cell_of a.journal w.mem)
  active-was = h.actives_are f k.s k.c k.is_open.current ∙ ap (λ m. Some (cell_of a.journal m)) (sym k.mem_is)

  -- the active memtable of another family is another one
  apart : (g s : ℕ) (x : SuperVersion) → IsCurrent a.tops a.supers g s x → g ≢ f → w.mem ≢ x.descriptor.active
  apart g s x c d q =
      let t = current-top a h.sound.lawful g s c.top c.at c.is in
      let t_is : t.2.it ≡ x = some (sym t.2.at ∙ c.has) in
      let live : x.live ≡ true = subst (λ (z : SuperVersion). z.live ≡ true) t_is t.2.live in
      let of : x.descriptor.family ≡ g = ap (λ (z : SuperVersion). z.descriptor.family) (sym t_is) ∙ t.2.family_is in
      let u = h.sound.lawful.descriptors s x c.has live in
      let v = says a h.sound f k.s k.c k.is_open in
      let m : k.c.descriptor.active ≡ x.descriptor.active = sym k.mem_is ∙ q in
      let same_ : v.active ≡ u.active = some (sym v.active_at ∙ ap (entry a.memtables) m ∙ u.active_at) in
      let p = current-top a h.sound.lawful f k.s k.is_open.current.top k.is_open.current.at k.is_open.current.is in
      let c_of : k.c.descriptor.family ≡ f = ap (λ (z : SuperVersion). z.descriptor.family) (some (sym k.is_open.current.has ∙ p.2.at)) ∙ p.2.family_is in
      d (sym of ∙ sym u.active_family ∙ ap (λ z. z.family) (sym same_) ∙ v.active_family ∙ c_of)

  pub written-stands : (B : List Cell) → B ≡ set A f grown → Stands b B O W
  written-stands B is = subst (λ (z : Books). Stands z B O W) (sym k.is) (record {
    sound = subst Sound k.is sound;
    currents = λ f x at st. let c = h.currents f x at st in record { top = c.top; at = c.at; serial = c.serial; is = c.is };
    jobs = h.jobs;
    actives_are = λ g s x c. dite (ℕ_discrete g f)
        (λ q.
        let one : x ≡ k.c = same-current g s x c q in
        ap (λ (z : List Cell × ℕ). slice_get z.0 z.1) (λ j. (is j, q j)) ∙ p.here ∙ ap Some grown-is
        ∙ ap (λ m. Some (cell_of (a.journal ++ w ∷ []) m)) (k.mem_is ∙ ap (λ (y : SuperVersion). y.descriptor.active) (sym one)))
        (λ q.
        ap (λ l. slice_get l g) is ∙ p.others g q ∙ h.actives_are g s x c
        ∙ ap (λ l. Some (record { id = x.descriptor.active; rows = rows_of l })) (sym (borne-other x.descriptor.active a.journal w (apart g s x c q))));
    many = ap length is ∙ length-set A f grown ∙ h.many;
    outputs_are = record { each = λ i x e. let o = h.outputs_are.each i x e in (o.0, record { captured = o.1.captured; covered = o.1.covered }); once = h.outputs_are.once };
    waiting_are = record { free = λ i q e. let u = h.waiting_are.free i q e in record { serial = u.serial; it = u.it; at = u.at; live = u.live; pack_is = u.pack_is; free = u.free }; once = h.waiting_are.once };
  })
    where
      p : IsPlaced A (set A f grown) f grown
      p = placed-set A f (cell_of a.journal w.mem) grown active-was

      same-current : (g s : ℕ) (x : SuperVersion) → (c : IsCurrent a.tops a.supers g s x) → g ≡ f → x ≡ k.c
      same-current g s x c q =
          let o = k.is_open.current in
          let t : c.top ≡ o.top = some (sym c.at ∙ ap (slice_get a.tops) q ∙ o.at) in
          let n : s ≡ k.s = some (sym c.is ∙ ap (λ (z : Top). z.current) t ∙ o.is) in
          some (sym c.has ∙ ap (entry a.supers) n ∙ o.has)

-- ---- what is read at a place

-- the element that is there
pub indexed : {X : Type 0} (l : List X) (n f : ℕ) (x v : X) → n ≡ f → slice_get l f ≡ Some x → v ≡ slice_index_or l n v → v ≡ x
indexed l n f x v q at is = is ∙ ap (λ m. slice_index_or l m v) q ∙ get_or_from_slice_get l f x v at
