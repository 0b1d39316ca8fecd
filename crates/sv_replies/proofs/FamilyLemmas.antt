-- Families are made, opened, released and dropped, options are set and SuperVersions pinned: why the replies fit, and
-- what the lane then knows.
use Rattle.std.proofs.Common.{◌≡◌, ◌<◌, ◌≤◌, ◌+◌, ◌==◌, ⊎_elim, ℕ, max, Bool, true, List, length, Option, Some, None, refl, sym, ◌∙◌, ap, subst, arith}
use Rattle.std.specs.Prelude.{slice_get, slice_set, if◌then◌else◌, bytes_eq}
use Rattle.std.proofs.lemmas.List.{length_push}
use Rattle.std.proofs.lemmas.Bool.Decides.{eqb_tells}
use Rattle.std.proofs.lemmas.Slice.Eq.{bytes_eq-Decides}
use Rattle.sv_model.specs.declared.records.Family.{Family}
use Rattle.sv_model.specs.declared.settings.OptionName.{OptionName}
use Rattle.sv_model.specs.declared.settings.Options.{Options}
use Rattle.sv_model.specs.After.{After}
use Rattle.sv_model.specs.Books.{Books}
use Rattle.sv_model.specs.Registers.{entry}
use Rattle.sv_model.specs.Steady.{Sound}
use Rattle.sv_model.proofs.Registers.{entry-new, entry_le}
use Rattle.sv_laws.specs.Families.{IsDropped, IsOpened}
use Rattle.sv_laws.specs.Installs.{live_super}
use Rattle.sv_laws.specs.NewCurrents.{IsFamilyMade, IsOptionSet}
use Rattle.sv_laws.proofs.GrownRegisters.{placed-push, placed-set}
use Rattle.sv_laws.proofs.OpenFamilies.{of_f}
use Rattle.sv_script.specs.declared.commands.Command.TheVariants as command
use Rattle.sv_script.specs.declared.replies.Reply.TheVariants as reply
use Rattle.sv_replies.specs.DropLaw.{Drops}
use Rattle.sv_replies.specs.Due.{due, free_pin}
use Rattle.sv_replies.specs.Known.{Known, Pinned, as_dropped, has_handle, learn, learns, met, pinned, with_at, with_handle}
use Rattle.sv_replies.specs.Knows.{Knows}
use Rattle.sv_replies.specs.PinLaw.{Pins}
use Rattle.sv_replies.specs.ReplyFits.{ReplyFits}
use Rattle.sv_replies.specs.SetLaw.{Sets, value_of}
use Rattle.sv_replies.specs.Settings.{Setting}
use Rattle.sv_replies.specs.Moments.{IsIn, IsNamed, IsOf, WasDropped}
use Rattle.sv_replies.proofs.KnowsLaws.{at_holds, handle_holds, knows-dropped, knows-later, knows-learns, unequal}
use Rattle.sv_replies.proofs.LearnLaws.{knows-serial, knows-touch, max_below, of_handle}
use Rattle.sv_replies.proofs.MetLaws.{through}

-- ---- handles

item : (f g : ℕ) → Some f ≡ Some g → f ≡ g
item f g e = cc

none_item : (f : ℕ) → None ≡ Some f → ⊥
none_item f e = absurd (cc)

-- a handle more, of a family that has the name
pub knows-handle : (b : Books) (k : Known) (name : List ℕ) (id : ℕ) → Knows b k → IsNamed b id name
    → Knows b (has_handle name id k)
knows-handle b k name id h is = record {
  families = h.families;
  handles = handle_holds (λ other o. (f : ℕ) → o ≡ Some f → IsNamed b f other) k.handles name (Some id) h.handles
      (λ f e. subst (λ g. IsNamed b g name) (item id f e) is);
  named = λ other f e. ⊎_elim
      (λ same. named other f (bytes_eq-Decides other name).0 same (sym (ap (λ (q : Bool). if q then (if f == id then true else k.named other f) else k.named other f) same) ∙ e))
      (λ apart. h.named other f (sym (ap (λ (q : Bool). if q then (if f == id then true else k.named other f) else k.named other f) apart) ∙ e))
      (unequal other name);
  created = h.created;
  file = h.file;
  pins = h.pins;
  snapshots = h.snapshots;
  ended = h.ended;
}
  where
    named : (other : List ℕ) (f : ℕ) → (bytes_eq other name ≡ true → other ≡ name) → bytes_eq other name ≡ true
        → (if f == id then true else k.named other f) ≡ true → IsNamed b f other
    named other f decides same e = ⊎_elim
        (λ eq. subst (λ (n : List ℕ). IsNamed b f n) (sym (decides same)) (subst (λ g. IsNamed b g name) (sym eq.1) is))
        (λ ne. h.named other f (sym (ap (λ (q : Bool). if q then true else k.named other f) ne.0) ∙ e))
        (eqb_tells f id)

-- a handle less
pub knows-released : (b : Books) (k : Known) (name : List ℕ) → Knows b k
    → Knows b (record k { handles = with_handle k.handles name None })
knows-released b k name h = record {
  families = h.families;
  handles = handle_holds (λ other o. (f : ℕ) → o ≡ Some f → IsNamed b f other) k.handles name None h.handles (λ f e. absurd (none_item f e));
  named = h.named;
  created = h.created;
  file = h.file;
  pins = h.pins;
  snapshots = h.snapshots;
  ended = h.ended;
}

-- an id that was made
pub knows-created : (b : Books) (k : Known) (id : ℕ) → Knows b k → id < length b.families
    → Knows b (record k { created = max k.created id })
knows-created b k id h made = record {
  families = h.families;
  handles = h.handles;
  named = h.named;
  created = max_below k.created id (length b.families) h.created made;
  file = h.file;
  pins = h.pins;
  snapshots = h.snapshots;
  ended = h.ended;
}

pub knows-pins : (b : Books) (k : Known) (pin : ℕ) (o : Option Pinned) → Knows b k
    → ((p : Pinned) → o ≡ Some p → IsIn (IsOf p.family) b.supers p.serial)
    → Knows b (record k { pins = with_at k.pins pin o })
knows-pins b k pin o h of = record {
  families = h.families;
  handles = h.handles;
  named = h.named;
  created = h.created;
  file = h.file;
  pins = at_holds (λ n (z : Option Pinned). (p : Pinned) → z ≡ Some p → IsIn (IsOf p.family) b.supers p.serial) k.pins pin o h.pins of;
  snapshots = h.snapshots;
  ended = h.ended;
}

-- ---- a family is made

module _ (a b : Books) (r : Family) (h : IsFamilyMade a b r) where
  made-named : (name : List ℕ) → r.name ≡ name → IsNamed b (length a.families) name
  made-named name is =
      (r, ap (λ (x : Books). slice_get x.families (length a.families)) h.is ∙ (placed-push a.families r).here, is)

  pub create-fits : (s : Setting) (k : Known) (name : List ℕ) (id : ℕ) → Knows a k → r.name ≡ name
      → k.handles name ≡ None
      → id ≡ length a.families → ReplyFits s b k (command.Create name) (reply.Create id)
  create-fits s k name id knows is free number = (
    refl,
    record {
      free = free;
      newer = omega (arith, number, knows.created);
      named = subst (λ n. IsNamed b n name) (sym number) (made-named name is);
    },
  )

  pub create-knows : (k : Known) (name : List ℕ) (id : ℕ) → After a b → Knows a k → r.name ≡ name
      → id ≡ length a.families
      → Knows b (learn k (command.Create name) (reply.Create id))
  create-knows k name id after knows is number =
      knows-created b (has_handle name id k) id
      (knows-handle b k name id (knows-later a b k after knows) (subst (λ n. IsNamed b n name) (sym number) (made-named name is)))
      (omega (arith, number, ap (λ (x : Books). length x.families) h.is, length_push a.families r))

-- ---- a handle is taken

module _ (a b : Books) (f lane : ℕ) (h : IsOpened a b f lane) where
  opened-named : (name : List ℕ) → h.it.name ≡ name → IsNamed b f name
  opened-named name is = (
    record h.it { handles = slice_set h.it.handles lane true },
    ap (λ (x : Books). slice_get x.families f) h.is ∙ (placed-set a.families f h.it (record h.it { handles = slice_set h.it.handles lane true }) h.at).here,
    is,
  )

  pub open-fits : (s : Setting) (k : Known) (name : List ℕ) → h.it.name ≡ name → due k (command.Open name) ≡ None
      → ReplyFits s b k (command.Open name) (reply.Open f)
  open-fits s k name is none = (none, opened-named name is)

  pub open-knows : (k : Known) (name : List ℕ) → After a b → Knows a k → h.it.name ≡ name
      → Knows b (learn k (command.Open name) (reply.Open f))
  open-knows k name after knows is = knows-handle b k name f (knows-later a b k after knows) (opened-named name is)

-- and given back
pub release-fits : (s : Setting) (b : Books) (k : Known) (name : List ℕ) → due k (command.Release name) ≡ None
    → ReplyFits s b k (command.Release name) reply.Release
release-fits s b k name none = (none, tt)

pub release-knows : (a b : Books) (k : Known) (name : List ℕ) → After a b → Knows a k
    → Knows b (learn k (command.Release name) reply.Release)
release-knows a b k name after knows = knows-released b k name (knows-later a b k after knows)

-- ---- a family is dropped

module _ (a b : Books) (f lane : ℕ) (h : IsDropped a b f lane) where
  is-dropped : WasDropped b f
  is-dropped = (
    record h.it { dropped = true },
    ap (λ (x : Books). slice_get x.families f) h.is ∙ (placed-set a.families f h.it (record h.it { dropped = true }) h.at).here,
    refl,
  )

  pub drop-fits : (s : Setting) (k : Known) (name : List ℕ) → k.handles name ≡ Some f → due k (command.Drop name) ≡ None
      → ReplyFits s b k (command.Drop name) reply.Drop
  drop-fits s k name has none = (none, through (k.handles name) f (Drops b) has is-dropped)

  pub drop-knows : (k : Known) (name : List ℕ) → After a b → Knows a k → k.handles name ≡ Some f
      → Knows b (learn k (command.Drop name) reply.Drop)
  drop-knows k name after knows has =
      let later = knows-later a b k after knows in
      of_handle (λ z. Knows b (learns as_dropped z k)) (k.handles name) f has
      (knows-learns b k as_dropped f later (knows-dropped b f (k.families f) (later.families f) is-dropped))

-- ---- an option is set

module _ (a b : Books) (f : ℕ) (o : Options) (sound : Sound a) (h : IsOptionSet a b f o) where
  made_at : (sv : ℕ) → sv ≡ length a.supers + 1
      → entry b.supers sv ≡ Some (live_super (record h.c.descriptor { options = o }) h.place)
  made_at sv number =
      ap (λ (x : Books). entry x.supers sv) h.is ∙ entry-new a.supers (live_super (record h.c.descriptor { options = o }) h.place) sv number

  pub set-fits : (s : Setting) (k : Known) (name : List ℕ) (option : OptionName) (value sv : ℕ) → Knows a k
      → k.handles name ≡ Some f
      → due k (command.Set name option value) ≡ None → value_of option o ≡ value → sv ≡ length a.supers + 1
      → ReplyFits s b k (command.Set name option value) (reply.Set sv)
  set-fits s k name option value sv knows has none is number = (
    none,
    through (k.handles name) f (Sets b k option value sv) has (record {
      newer = ⊎_elim
          (λ zero. omega (arith, zero, number))
          (λ at. omega (arith, (entry_le a.supers (k.families f).serial at.0 at.1).1, number))
          (knows.families f).serial;
      set = (
        live_super (record h.c.descriptor { options = o }) h.place,
        made_at sv number,
        record { family_is = of_f a sound f h.s h.c h.is_open; value_is = is },
      );
    }),
  )

  pub set-knows : (k : Known) (name : List ℕ) (option : OptionName) (value sv : ℕ) → After a b → Knows a k
      → k.handles name ≡ Some f
      → sv ≡ length a.supers + 1 → Knows b (learn k (command.Set name option value) (reply.Set sv))
  set-knows k name option value sv after knows has number =
      of_handle (λ z. Knows b (learns (met sv) z k)) (k.handles name) f has
      (knows-serial b k (knows-later a b k after knows) f sv
      (live_super (record h.c.descriptor { options = o }) h.place, made_at sv number, of_f a sound f h.s h.c h.is_open))

-- ---- a SuperVersion is pinned

pub pin-fits : (s : Setting) (b : Books) (k : Known) (name : List ℕ) (f pin sv : ℕ) → k.handles name ≡ Some f
    → due k (command.Pin name) ≡ None
    → free_pin k ≡ Some pin → (k.families f).serial ≤ sv → IsIn (IsOf f) b.supers sv
    → ReplyFits s b k (command.Pin name) (reply.Pin pin sv)
pin-fits s b k name f pin sv has none least newer of =
    (none, through (k.handles name) f (Pins b k pin sv) has (record { least = least; newer = newer; of = of }))

pin_item : (p q : Pinned) → Some p ≡ Some q → p ≡ q
pin_item p q e = cc

none_pin : (q : Pinned) → None ≡ Some q → ⊥
none_pin q e = absurd (cc)

knows-pinned : (b : Books) (k : Known) (f pin sv : ℕ) → Knows b k → IsIn (IsOf f) b.supers sv
    → Knows b (pinned (Some f) pin sv k)
knows-pinned b k f pin sv h of =
    knows-pins b k pin (Some (record { family = f; serial = sv })) h
    (λ p e. subst (λ (q : Pinned). IsIn (IsOf q.family) b.supers q.serial) (pin_item (record { family = f; serial = sv }) p e) of)

pub pin-knows : (b : Books) (k : Known) (name : List ℕ) (f pin sv : ℕ) → Knows b k → k.handles name ≡ Some f
    → IsIn (IsOf f) b.supers sv
    → Knows b (learn k (command.Pin name) (reply.Pin pin sv))
pin-knows b k name f pin sv knows has of =
    knows-touch b (pinned (k.handles name) pin sv (learns (met sv) (k.handles name) k)) (k.handles name)
    (of_handle (λ z. Knows b (pinned z pin sv (learns (met sv) z k))) (k.handles name) f has
    (knows-pinned b (learns (met sv) (Some f) k) f pin sv (knows-serial b k knows f sv of) of))

pub unpin-fits : (s : Setting) (b : Books) (k : Known) (pin : ℕ) → due k (command.Unpin pin) ≡ None
    → ReplyFits s b k (command.Unpin pin) reply.Unpin
unpin-fits s b k pin none = (none, tt)

pub unpin-knows : (b : Books) (k : Known) (pin : ℕ) → Knows b k → Knows b (learn k (command.Unpin pin) reply.Unpin)
unpin-knows b k pin knows = knows-pins b k pin None knows (λ p e. absurd (none_pin p e))
