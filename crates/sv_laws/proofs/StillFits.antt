-- What fits together goes on doing so while registers go on and the journal stands.
use Rattle.std.proofs.Common.{◌≡◌, ◌≤◌, ℕ, ◌+◌, inl, inr, ⊎_elim, List, [], ◌∷◌, ◌++◌, length, Option, Some, None, refl, sym, ap, ◌∙◌, subst, arith}
use Rattle.std.specs.Prelude.{unwrap_or, option_map}
use Rattle.sv_model.specs.declared.writes.Write.{Write}
use Rattle.sv_model.specs.declared.records.Memtable.{Memtable}
use Rattle.sv_model.specs.declared.records.MemtableList.{MemtableList}
use Rattle.sv_model.specs.declared.records.Version.{Version}
use Rattle.sv_model.specs.declared.records.Descriptor.{Descriptor}
use Rattle.sv_model.specs.declared.records.FileMeta.{FileMeta}
use Rattle.sv_model.specs.declared.records.RegisteredFile.{RegisteredFile}
use Rattle.sv_model.specs.Journal.{borne_by}
use Rattle.sv_model.specs.Lists.{In}
use Rattle.sv_model.specs.Ranges.{FilesJoin, reach_from, reach_of}
use Rattle.sv_model.specs.Registers.{entry, GoesOn}
use Rattle.sv_model.specs.After.{KeepsMemtable, KeepsList, KeepsVersion, KeepsNumber}
use Rattle.sv_model.specs.Books.{files_of}
use Rattle.sv_model.specs.Described.{IsFileOf, FilesStand, MembersJoin, Describes, LastFits}
use Rattle.sv_model.specs.Steady.{IsAwaited}
use Rattle.sv_model.proofs.Entries.{in-suc, in-cons, in-none}
use Rattle.sv_model.proofs.Metas.{captured-goes}

pub join-on : (J : List Write) (M N : List Memtable) → GoesOn KeepsMemtable M N → (f : ℕ) (ms : List ℕ) (from to : ℕ)
    → MembersJoin J M f from ms to → MembersJoin J N f from ms to
join-on J M N g f [] from to h = h
join-on J M N g f (m ∷ ms) from to h =
    let t = g m h.0.it h.0.at in
    (record { it = t.0; at = t.1; family_is = t.2.family ∙ h.0.family_is; first_is = t.2.first ∙ h.0.first_is; some = h.0.some }, join-on J M N g f ms (from + length (borne_by m J)) to h.1)

pub join-append : (J : List Write) (M : List Memtable) (f : ℕ) (ms ns : List ℕ) (from to end : ℕ)
    → MembersJoin J M f from ms to → MembersJoin J M f to ns end → MembersJoin J M f from (ms ++ ns) end
join-append J M f [] ns from to end h k = subst (λ i. MembersJoin J M f i ns end) (sym h) k
join-append J M f (m ∷ ms) ns from to end h k =
    (h.0, join-append J M f ms ns (from + length (borne_by m J)) to end h.1 k)

-- what comes after a front that joins begins where the front ends
pub join_rest : (J : List Write) (M : List Memtable) (f : ℕ) (ms ns : List ℕ) (from to end : ℕ)
    → MembersJoin J M f from ms to → MembersJoin J M f from (ms ++ ns) end → MembersJoin J M f to ns end
join_rest J M f [] ns from to end h k = subst (λ i. MembersJoin J M f i ns end) h k
join_rest J M f (m ∷ ms) ns from to end h k = join_rest J M f ms ns (from + length (borne_by m J)) to end h.1 k.1

pub join-le : (J : List Write) (M : List Memtable) (f : ℕ) (ms : List ℕ) (from to : ℕ) → MembersJoin J M f from ms to
    → from ≤ to
join-le J M f [] from to h = omega (arith, h)
join-le J M f (m ∷ ms) from to h = omega (arith, join-le J M f ms (from + length (borne_by m J)) to h.1)

-- a member of a list that joins is a memtable of the family
pub join_in : (J : List Write) (M : List Memtable) (f : ℕ) (ms : List ℕ) (from to m : ℕ)
    → MembersJoin J M f from ms to → In m ms → (it : Memtable) × (entry M m ≡ Some it) × (it.family ≡ f)
join_in J M f [] from to m h i = absurd (in-none m i)
join_in J M f (k ∷ ms) from to m h i = ⊎_elim
    (λ q. (h.0.it, ap (entry M) q ∙ h.0.at, h.0.family_is))
    (λ j. join_in J M f ms (from + length (borne_by k J)) to m h.1 j)
    (in-cons m k ms i)

-- and in another journal in which the members have the same rows
pub join-still : (J K : List Write) (M : List Memtable) (f : ℕ) (ms : List ℕ) (from to : ℕ)
    → ((m : ℕ) → In m ms → borne_by m K ≡ borne_by m J) → MembersJoin J M f from ms to → MembersJoin K M f from ms to
join-still J K M f [] from to same h = h
join-still J K M f (m ∷ ms) from to same h =
    let q : length (borne_by m J) ≡ length (borne_by m K) =
    sym (ap (λ (l : List Write). length l) (same m (record { at = 0; is = refl }))) in
    let rest : MembersJoin K M f (from + length (borne_by m J)) ms to =
    join-still J K M f ms (from + length (borne_by m J)) to (λ n i. same n (in-suc n m ms i)) h.1 in
    (record { it = h.0.it; at = h.0.at; family_is = h.0.family_is; first_is = h.0.first_is; some = omega (arith, h.0.some, q) }, subst (λ n. MembersJoin K M f (from + n) ms to) q rest)

-- ---- files
pub join_reach : (files : List FileMeta) (from to : ℕ) → FilesJoin from files to → reach_from from files ≡ to
join_reach [] from to h = h
join_reach (f ∷ files) from to h = join_reach files f.to to h.1

pub files-join-push : (files : List FileMeta) (file : FileMeta) (from to : ℕ) → FilesJoin from files to
    → file.from ≡ to → FilesJoin from (files ++ file ∷ []) file.to
files-join-push [] file from to h e = (e ∙ sym h, refl)
files-join-push (f ∷ files) file from to h e = (h.0, files-join-push files file f.to to h.1 e)

module _ (N K : List RegisteredFile) (gn : GoesOn KeepsNumber N K) (X Y : List FileMeta) (gx : (m : FileMeta) → In m X → In m Y) where
  pub file-on : (f : ℕ) (x : FileMeta) → IsFileOf N X f x → IsFileOf K Y f x
  file-on f x h = record {
    captured = captured-goes N K gn f x.number h.captured;
    covers = gx x h.covers;
    some = h.some;
  }

  pub files-on : (f : ℕ) (files : List FileMeta) (to : ℕ) → FilesStand N X f files to → FilesStand K Y f files to
  files-on f files to h = record { joins = h.joins; each = λ i x e. file-on f x (h.each i x e); above = h.above }

  pub last-on : (J : List Write) (V W : List Version) → GoesOn KeepsVersion V W → (f v : ℕ) → LastFits J V N X f v
      → LastFits J W K Y f v
  last-on J V W g f v h = let t = g v h.version h.at in record {
    version = t.0;
    at = t.1;
    to = h.to;
    files = files-on f t.0.files h.to (subst (λ l. FilesStand N X f l h.to) (sym t.2.files) h.files);
    within = h.within;
  }

  pub describes-on : (J : List Write) (M O : List Memtable) (L P : List MemtableList) (V W : List Version)
      → GoesOn KeepsMemtable M O → GoesOn KeepsList L P → GoesOn KeepsVersion V W → (d : Descriptor)
      → Describes J M L V N X d → Describes J O P W K Y d
  describes-on J M O L P V W gm gl gv d h =
      let m = gm d.active h.active h.active_at in
      let l = gl d.list h.list h.list_at in
      let v = gv d.version h.version h.version_at in
      record {
        active = m.0;
        active_at = m.1;
        active_family = m.2.family ∙ h.active_family;
        base = h.base ∙ sym m.2.first;
        within = h.within;
        list = l.0;
        list_at = l.1;
        version = v.0;
        version_at = v.1;
        middle = h.middle;
        files = files-on d.family v.0.files h.middle
            (subst (λ xs. FilesStand N X d.family xs h.middle) (sym v.2.files) h.files);
        members = subst (λ ms. MembersJoin J O d.family h.middle ms d.base) (sym l.2.members)
            (join-on J M O gm d.family h.list.members h.middle d.base h.members);
      }

  pub awaited-on : (J : List Write) (M O : List Memtable) (L P : List MemtableList) (V W : List Version)
      → GoesOn KeepsMemtable M O → GoesOn KeepsList L P → GoesOn KeepsVersion V W → (n : ℕ) (d : Descriptor)
      → IsAwaited J M L V X n d → IsAwaited J O P W Y n d
  awaited-on J M O L P V W gm gl gv n d h =
      let l = gl d.list h.list h.list_at in
      let v = gv d.version h.version h.version_at in
      record {
        file = h.file;
        covered = gx h.file h.covered;
        number_is = h.number_is;
        some = h.some;
        list = l.0;
        list_at = l.1;
        version = v.0;
        version_at = v.1;
        fits = ⊎_elim
            (λ q. inl (record {
              from_is = q.from_is ∙ ap reach_of (sym v.2.files);
              above = q.above;
              front = q.front;
              back = q.back;
              parts = l.2.members ∙ q.parts;
              joins = join-on J M O gm d.family q.front h.file.from h.file.to q.joins;
            }))
            (λ q. inr (record {
              last_is = q.last_is;
              from_is = q.from_is;
              to_is = q.to_is ∙ ap reach_of (sym v.2.files);
            }))
            h.fits;
      }

-- the files of a Version go on
pub files_stay : (V W : List Version) → GoesOn KeepsVersion V W → (v : ℕ) (x : Version) → entry V v ≡ Some x
    → files_of W v ≡ x.files
files_stay V W g v x e =
    let t = g v x e in ap (λ o. unwrap_or (option_map (λ (it : Version). it.files) o) []) t.1 ∙ t.2.files

pub files-at : (V : List Version) (v : ℕ) (x : Version) → entry V v ≡ Some x → files_of V v ≡ x.files
files-at V v x e = ap (λ o. unwrap_or (option_map (λ (it : Version). it.files) o) []) e

pub reach-on : (V W : List Version) → GoesOn KeepsVersion V W → (v : ℕ)
    → reach_of (files_of V v) ≤ reach_of (files_of W v)
reach-on V W g v = by (entry V v) refl
  where
    by : (o : Option Version) → entry V v ≡ o → reach_of (files_of V v) ≤ reach_of (files_of W v)
    by None e = omega (arith, ap (λ o. reach_of (unwrap_or (option_map (λ (it : Version). it.files) o) [])) e)
    by (Some x) e = omega (arith, ap reach_of (files-at V v x e), ap reach_of (files_stay V W g v x e))
