-- A family is made.
use Rattle.std.proofs.Common.{◌≡◌, ◌+◌, inl, inr, true, List, [], ◌∷◌, ◌++◌, length, Some, refl, sym, ap, ◌∙◌, subst, arith, length-append}
use Rattle.std.specs.Prelude.{slice_get}
use Rattle.sv_model.specs.declared.writes.Write.{Write}
use Rattle.sv_model.specs.declared.records.SuperVersion.{SuperVersion}
use Rattle.sv_model.specs.declared.records.Memtable.{Memtable}
use Rattle.sv_model.specs.declared.records.MemtableList.{MemtableList}
use Rattle.sv_model.specs.declared.records.Version.{Version}
use Rattle.sv_model.specs.declared.records.Family.{Family}
use Rattle.sv_model.specs.declared.records.Top.{Top}
use Rattle.sv_model.specs.Journal.{borne_by, of_family}
use Rattle.sv_model.specs.Lists.{In}
use Rattle.sv_model.specs.Registers.{entry}
use Rattle.sv_model.specs.Books.{Books}
use Rattle.sv_model.specs.After.{After}
use Rattle.sv_model.specs.Described.{IsFileOf}
use Rattle.sv_model.specs.Steady.{Sound}
use Rattle.sv_model.proofs.Registers.{entry-new}
use Rattle.sv_laws.specs.NewCurrents.{IsFamilyMade}
use Rattle.sv_laws.specs.Installs.{next_top, live_super}
use Rattle.sv_model.proofs.Entries.{some, every_none, in-none}
use Rattle.sv_model.proofs.Basics.{none_some}
use Rattle.sv_laws.proofs.GrownRegisters.{get_within, placed-push}
use Rattle.sv_laws.proofs.Installed.{installed}
use Rattle.sv_laws.proofs.BorneRows.{unborne, unowned}
use Rattle.sv_laws.proofs.BorneRows.{mem-within}
use Rattle.sv_laws.specs.Growing.{IsPlaced}

pub created : (a b : Books) (k : Sound a) (r : Family) → IsFamilyMade a b r → Sound b × After a b
created a b k r h =
    let f = length a.families in
    let none : of_family f a.journal ≡ [] = unowned a.journal f (λ i w e. (k.steady.borne i w e).family_made) in
    let zero_is : 0 ≡ length (of_family f a.journal) = sym (ap (λ (l : List Write). length l) none) in
    let fresh : borne_by (length a.memtables + 1) a.journal ≡ [] =
    unborne a.journal (length a.memtables + 1)
    (λ i w e. omega (arith, mem-within (length a.memtables) (length a.families) w (k.steady.borne i w e))) in
    let x : SuperVersion =
    live_super
    (record {
      family = f;
      active = length a.memtables + 1;
      list = length a.lists + 1;
      version = length a.versions + 1;
      base = 0;
      options = r.options;
    })
    h.place in
    let y : Memtable = record { family = f; first = 0; cell = h.cell; live = true } in
    let z : MemtableList = record { members = []; live = true } in
    let v : Version = record { files = []; live = true } in
    let e : Books = record a {
      supers = a.supers ++ x ∷ [];
      memtables = a.memtables ++ y ∷ [];
      lists = a.lists ++ z ∷ [];
      versions = a.versions ++ v ∷ [];
      families = a.families ++ r ∷ [];
      tops = a.tops ++ next_top a (length a.versions + 1) ∷ [];
    } in
    let tops =
    subst
    (λ g. IsPlaced a.tops (a.tops ++ next_top a (length a.versions + 1) ∷ []) g (next_top a (length a.versions + 1)))
    k.lawful.paired (placed-push a.tops (next_top a (length a.versions + 1))) in
    let no_top : (t : Top) → slice_get a.tops f ≡ Some t → ⊥ =
    λ t q. omega (arith, get_within a.tops f t q, k.lawful.paired) in
    subst (λ (u : Books). Sound u × After a u) (sym h.is) (installed a e k f r x (record {
      rest = refl;
      family_is = refl;
      live = refl;
      room = h.room;
      memtables = inr (
        y,
        refl,
        record {
          is_active = refl;
          live = refl;
          family_is = refl;
          first_is = zero_is;
          room = h.cell_room;
        },
      );
      lists = inr (z, refl, record { is_list = refl; live = refl; members = λ m i. absurd (in-none m i) });
      versions = inr (v, refl, record { is_version = refl; live = refl; files = λ n i. absurd (in-none n i) });
      files = inl refl;
      active_live = record { it = y; at = entry-new a.memtables y (length a.memtables + 1) refl; live = refl };
      list_lives = record { it = z; at = entry-new a.lists z (length a.lists + 1) refl; live = refl };
      version_lives = record { it = v; at = entry-new a.versions v (length a.versions + 1) refl; live = refl };
      describes = record {
        active = y;
        active_at = entry-new a.memtables y (length a.memtables + 1) refl;
        active_family = refl;
        base = refl;
        within = omega arith;
        list = z;
        list_at = entry-new a.lists z (length a.lists + 1) refl;
        version = v;
        version_at = entry-new a.versions v (length a.versions + 1) refl;
        middle = 0;
        files = record {
          joins = refl;
          each = every_none (IsFileOf a.files.numbers a.metas f);
          above = λ i m q low. absurd (none_some m q);
        };
        members = refl;
      };
      ends = omega (arith, ap (λ (l : List Write). length l) fresh, zero_is);
      awaited = λ n q. absurd (omega (arith, k.steady.busy f n q));
      lasts = λ m w.
          let T = a.tops ++ next_top a (length a.versions + 1) ∷ [] in
          let W = a.versions ++ v ∷ [] in
          let here : slice_get T f ≡ Some (next_top a (length a.versions + 1)) = tops.here in
          let last : w.top.last ≡ length a.versions + 1 = ap (λ (u : Top). u.last) (some (sym w.top_at ∙ here)) in
          let same : w.version ≡ v =
          some (sym w.version_at ∙ ap (entry W) last ∙ entry-new a.versions v (length a.versions + 1) refl) in
          absurd (in-none m (subst (λ (z : Version). In m z.files) same w.has));
      families = placed-push a.families r;
      tops = tops;
      paired = omega (
        arith,
        k.lawful.paired,
        length-append a.tops (next_top a (length a.versions + 1) ∷ []),
        length-append a.families (r ∷ []),
      );
      more = omega (arith, length-append a.families (r ∷ []));
      few_families = omega (arith, h.few, length-append a.families (r ∷ []));
      stands = h.stands;
      options_are = refl;
      in_range = h.in_range;
      handles = h.handles;
      name_free = λ g u _ q st n. h.name_free g u q st n;
      was = λ u q. absurd (omega (arith, get_within a.families f u q));
      had = λ t q. absurd (no_top t q);
      onward = inl refl;
      reach = λ t q. absurd (no_top t q);
    }))
