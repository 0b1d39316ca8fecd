-- A number is captured or given up.
use Rattle.std.proofs.Common.{◌≡◌, ◌<◌, ◌≤◌, ◌==◌, ◌||◌, ◌∷◌, ◌++◌, ℕ, Bool, true, false, List, [], length, Some, None, refl, ap, ◌∙◌, subst, arith}
use Rattle.std.specs.Prelude.{if◌then◌else◌, nat_le, slice_get}
use Rattle.sv_model.specs.declared.records.FileMeta.{FileMeta}
use Rattle.sv_model.specs.declared.records.SuperVersion.{SuperVersion}
use Rattle.sv_model.specs.declared.records.FileStatus.TheVariants.{Obsolete}
use Rattle.sv_model.specs.declared.refusals.Refusal.{Refusal}
use Rattle.sv_model.specs.declared.refusals.Refusal.TheVariants.{RegisterFull}
use Rattle.sv_model.specs.After.{After}
use Rattle.sv_model.specs.Books.{Books, FileRegister}
use Rattle.sv_model.specs.Numbers.{captures}
use Rattle.sv_model.specs.Ranges.{reach_of}
use Rattle.sv_model.specs.Steady.{Sound}
use Rattle.sv_files.specs.Calls.{Settles, capture_refusal, captured_for}
use Rattle.sv_laws.specs.Captures.{IsFileCaptured, IsMergePlanned}
use Rattle.sv_laws.specs.Changes.{flush_begun, given_up, merge_planned}
use Rattle.sv_laws.specs.Snapping.{HasLiveCuts}
use Rattle.sv_laws.specs.Installs.{IsOpen}
use Rattle.sv_model.proofs.Entries.{some}
use Rattle.sv_laws.proofs.Kept.{sound-kept}
use Rattle.sv_objects.specs.declared.bodies.Body.{Body}
use Rattle.sv_state.specs.Capturing.{CanBegin}
use Rattle.sv_state.specs.Refs.{IsBodyOf}
use Rattle.sv_state.proofs.Calls.{below}

either-false : (p q : Bool) (e : Refusal) → (if p || q then Some e else None) ≡ None → (p ≡ false) × (q ≡ false)
either-false true q e h = absurd (cc)
either-false false true e h = absurd (cc)
either-false false false e h = (refl, refl)

pub room-left : (F : FileRegister) → F.next ≤ 18446744073709551615 → capture_refusal F ≡ None → (captures F.numbers < 1048576) × (F.next < 18446744073709551615)
room-left F most h =
    let e = either-false (nat_le 1048576 (captures F.numbers)) (F.next == 18446744073709551615) RegisterFull h in
    (below 1048576 (captures F.numbers) e.0, least F.next most e.1)
  where
    least : (n : ℕ) → n ≤ 18446744073709551615 → (n == 18446744073709551615) ≡ false → n < 18446744073709551615
    least n le q = grind arith

pub is-captured : (a : Books) (k : Sound a) (f : ℕ) (file : FileMeta) (F : FileRegister) (M : List FileMeta) → slice_get a.files.captured f ≡ Some None → capture_refusal a.files ≡ None
    → file.number ≡ a.files.next → HasLiveCuts a.journal a.snapshots f file → F ≡ captured_for a.files f → M ≡ a.metas ++ file ∷ [] → IsFileCaptured a (record a { files = F; metas = M }) f file
is-captured a k f file F M idle none number cuts files metas =
    let r = room-left a.files k.lawful.numbers.most none in
    record {
      number_is = number;
      idle = idle;
      few = r.0;
      more = r.1;
      cuts = cuts;
      is = λ i. record a { files = files i; metas = metas i };
    }

pub begin-law : (a : Books) (k : Sound a) (f : ℕ) (can : CanBegin a f) (body : Body) (w : IsBodyOf a can.it.descriptor body) (file : FileMeta) (F : FileRegister) (M : List FileMeta)
    → file.from ≡ reach_of body.files → file.to ≡ can.it.descriptor.base → file.bottom.last ≡ false → IsFileCaptured a (record a { files = F; metas = M }) f file
    → Sound (record a { files = F; metas = M }) × After a (record a { files = F; metas = M })
begin-law a k f can body w file F M from to kind captured = sound-kept a (record a { files = F; metas = M }) k (flush_begun f file (record {
  s = can.serial;
  c = can.it;
  is_open = can.is_open;
  list = can.list;
  list_at = can.list_at;
  some = can.some;
  version = w.version;
  version_at = w.version_at;
  from_is = from ∙ ap reach_of w.files_are;
  to_is = to;
  kind = kind;
  captured = captured;
}))

pub give-up-law : (a : Books) (k : Sound a) (n : ℕ) (F : FileRegister) → Settles n Obsolete a.files F → Sound (record a { files = F }) × After a (record a { files = F })
give-up-law a k n F h = sound-kept a (record a { files = F }) k (given_up h.family n (record { settled = h.settled; is = refl }))

pub is-merge-planned : (a : Books) (f s : ℕ) (c : SuperVersion) (o : IsOpen a f s c) (body : Body) (w : IsBodyOf a c.descriptor body) (file : FileMeta) (F : FileRegister) (M : List FileMeta)
    → file.from ≡ 0 → file.to ≡ reach_of body.files → file.bottom.last ≡ true → 0 < length body.files → IsFileCaptured a (record a { files = F; metas = M }) f file
    → IsMergePlanned a (record a { files = F; metas = M }) f file
is-merge-planned a f s c o body w file F M from to kind some captured = record {
  s = s;
  c = c;
  is_open = o;
  version = w.version;
  version_at = w.version_at;
  some = subst (λ l. 0 < length l) w.files_are some;
  from_is = from;
  to_is = to ∙ ap reach_of w.files_are;
  kind = kind;
  captured = captured;
}

pub merge-law : (a b : Books) (k : Sound a) (f : ℕ) (file : FileMeta) → IsMergePlanned a b f file → Sound b × After a b
merge-law a b k f file h = sound-kept a b k (merge_planned f file h)
