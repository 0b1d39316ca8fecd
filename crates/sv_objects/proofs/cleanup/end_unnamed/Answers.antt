use Rattle.std.proofs.Common.{◌≡◌, ℕ, List, true, false, Some, None, sym, ap, ◌∙◌, subst, arith, inl, inr, ⊎_elim}
use Rattle.std.specs.Option.{option_copied}
use Rattle.sv_model.specs.declared.records.Memtable.{Memtable}
use Rattle.sv_model.specs.Lists.{bit, total}
use Rattle.sv_model.specs.Named.{NamedMemtable}
use Rattle.sv_model.specs.Places.{gone_memtable}
use Rattle.sv_model.specs.Registers.{entry, change}
use Rattle.sv_model.proofs.Registers.{total-change, total_entry}
use Rattle.sv_laws.specs.Midst.{Midst}
use Rattle.sv_model.proofs.Entries.{some}
use Rattle.sv_laws.proofs.MidstLaws.{midst-ended, midst-gone, midst-named}
use Rattle.sv_objects.proofs.cleanup.end_unnamed.Goals as goal

pub returns-in_default-clause-midst : goal.returns-in_default-clause-midst
returns-in_default-clause-midst c all left apart h =
    midst-gone (NamedMemtable c.args.supers.now c.args.lists.now) all c.args.memtables.now c.args.mem left c.args.cells.now.items h
    (λ w. absurd (let q : None ≡ Some w.it = sym (ap option_copied c.in_default.is) ∙ c.record.ensures ∙ w.at in cc))

pub returns-then-not-live-clause-midst : goal.returns-then-not-live-clause-midst
returns-then-not-live-clause-midst c all left apart h =
    let at : entry c.args.memtables.now c.args.mem ≡ Some c.in-Some.record.now = sym c.record.ensures ∙ ap option_copied c.in-Some.is in
    midst-gone (NamedMemtable c.args.supers.now c.args.lists.now) all c.args.memtables.now c.args.mem left c.args.cells.now.items h
    (λ w. absurd (let q : true ≡ false = sym w.live ∙ ap (λ (m : Memtable). m.live) (some (sym w.at ∙ at)) ∙ c.if-not-live.true in cc))

pub returns-then-has_active-clause-midst : goal.returns-then-has_active-clause-midst
returns-then-has_active-clause-midst c all left apart h =
    midst-named (NamedMemtable c.args.supers.now c.args.lists.now) all c.args.memtables.now c.args.mem left c.args.cells.now.items h
    (inl (c.has_active.ensures.0 c.if-has_active.true))

pub returns-then-named_by-clause-midst : goal.returns-then-named_by-clause-midst
returns-then-named_by-clause-midst c all left apart h =
    midst-named (NamedMemtable c.args.supers.now c.args.lists.now) all c.args.memtables.now c.args.mem left c.args.cells.now.items h
    (inr (c.named_by.ensures.0 c.if-named_by.true))

pub push-requires : goal.push-requires
push-requires c =
    let at : entry c.args.memtables.now c.args.mem ≡ Some c.in-Some.record.now = sym c.record.ensures ∙ ap option_copied c.in-Some.is in
    (omega arith, omega (arith, c.requires.room, total_entry (λ (m : Memtable). bit m.live) c.args.memtables.now c.args.mem c.in-Some.record.now at, ap bit c.if-not-live.false))

pub returns-clause-midst : goal.returns-clause-midst
returns-clause-midst c all left apart h =
    let M = c.args.memtables.now in
    let it : Memtable = c.in-Some.record.now in
    let at : entry M c.args.mem ≡ Some it = sym c.record.ensures ∙ ap option_copied c.in-Some.is in
    let m = c.end.ensures.ended.0 in
    let e = c.end.ensures.ended.1 in
    let new : c.end.new.self ≡ change M c.args.mem (record it { live = false }) = e.gone ∙ ap (λ (z : Memtable). change M c.args.mem (gone_memtable z)) (some (sym e.at ∙ at)) in
    subst (λ (z : List Memtable × List ℕ). Midst (NamedMemtable c.args.supers.now c.args.lists.now) all z.0 left z.1) (λ i. (sym new i, sym c.push.ensures.items i))
    (midst-ended (NamedMemtable c.args.supers.now c.args.lists.now) all M c.args.mem left c.args.cells.now.items h it at c.if-not-live.false
    (⊎_elim (λ o. absurd (let q : true ≡ false = sym (c.has_active.ensures.1 o) ∙ c.if-has_active.false in cc)) (λ o. absurd (let q : true ≡ false = sym (c.named_by.ensures.1 o) ∙ c.if-named_by.false in cc))) apart)

pub returns-clause-room : goal.returns-clause-room
returns-clause-room c =
    let M = c.args.memtables.now in
    let it : Memtable = c.in-Some.record.now in
    let at : entry M c.args.mem ≡ Some it = sym c.record.ensures ∙ ap option_copied c.in-Some.is in
    let m = c.end.ensures.ended.0 in
    let e = c.end.ensures.ended.1 in
    let new : c.end.new.self ≡ change M c.args.mem (record it { live = false }) = e.gone ∙ ap (λ (z : Memtable). change M c.args.mem (gone_memtable z)) (some (sym e.at ∙ at)) in
    omega (arith, c.requires.room, c.push.ensures.len, ap (λ (l : List Memtable). total (λ z. bit z.live) l) new, total-change (λ (z : Memtable). bit z.live) M c.args.mem it (record it { live = false }) at, ap bit c.if-not-live.false)
