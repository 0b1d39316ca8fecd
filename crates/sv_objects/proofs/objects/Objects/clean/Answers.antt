use Rattle.std.proofs.Common.{◌≡◌, ◌++◌, [], ℕ, List, true, Some, sym, subst}
use Rattle.std.specs.Option.{option_to_list}
use Rattle.sv_model.specs.declared.records.SuperVersion.{SuperVersion}
use Rattle.sv_model.specs.declared.records.Memtable.{Memtable}
use Rattle.sv_model.specs.Books.{Books}
use Rattle.sv_model.specs.Lists.{Distinct, In}
use Rattle.sv_model.specs.Registers.{entry}
use Rattle.sv_model.specs.Named.{NamedFile, NamedMemtable}
use Rattle.sv_laws.specs.Midst.{Midst, MidstFiles}
use Rattle.sv_laws.proofs.CleanupBegins.{lists-ended, midst-begins, midst-files-begin, versions-ended}
use Rattle.sv_laws.proofs.MidstLaws.{midst-files-whole, midst-whole}
use Rattle.sv_objects.specs.Cleanups.{with_objects}
use Rattle.sv_objects.proofs.CleanLaws.{S, active-in, frees-active, frees-it, frees-list, given-free, given-in, given-live, given-once, reclaimed-is}
use Rattle.sv_objects.proofs.objects.Objects.clean.Goals as goal

pub retire_all-requires-clause-live : goal.retire_all-requires-clause-live
retire_all-requires-clause-live c n i =
    let r = c.requires in
    given-live (with_objects r.rest c.args.self.now) r.sound c.args.pack r.serial r.it r.at r.live r.pack_is c.reclaim-freed.result c.reclaim-freed.new.self c.reclaim-freed.ensures.reclaimed c.args.last r.stays r.goes c.gone_version-gone.result c.gone_version-gone.ensures c.release_version-numbers.new.versions c.release_version-numbers.result.items c.release_version-numbers.ensures n (subst (In n) c.as_slice-2.ensures.value i)

pub retire_all-requires-clause-once : goal.retire_all-requires-clause-once
retire_all-requires-clause-once c =
    let r = c.requires in
    subst Distinct (sym c.as_slice-2.ensures.value)
    (given-once (with_objects r.rest c.args.self.now) r.sound c.args.pack r.serial r.it r.at r.live r.pack_is c.reclaim-freed.result c.reclaim-freed.new.self c.reclaim-freed.ensures.reclaimed c.args.last r.stays r.goes c.gone_version-gone.result c.gone_version-gone.ensures c.release_version-numbers.new.versions c.release_version-numbers.result.items c.release_version-numbers.ensures)

pub returns : goal.returns
returns c r =
    let o = c.args.self.now in
    let a : Books = with_objects r.rest o in
    let s = r.serial in
    let x : SuperVersion = r.it in
    let freed = c.reclaim-freed.result in
    let R = c.reclaim-freed.new.self in
    let rec = c.reclaim-freed.ensures.reclaimed in
    let is : R ≡ S a r.sound c.args.pack s x r.at r.live r.pack_is = reclaimed-is a r.sound c.args.pack s x r.at r.live r.pack_is freed R rec in
    let fa = frees-active a r.sound c.args.pack s x r.at r.live r.pack_is freed R rec in
    let fl = frees-list a r.sound c.args.pack s x r.at r.live r.pack_is freed R rec in
    let L = c.release_list-members.new.lists in
    let given = c.release_list-members.result.items in
    let endL = c.release_list-members.ensures in
    let M = c.end_active.new.memtables in
    let V = c.release_version-numbers.new.versions in
    let files = c.retire_all.new.files in
    let numbers = c.release_version-numbers.result.items in
    let gone = c.gone_version-gone.result in
    let fv = frees-it a r.sound c.args.pack s x r.at r.live r.pack_is freed R rec c.args.last r.stays r.goes gone c.gone_version-gone.ensures V numbers c.release_version-numbers.ensures in
    let apart = λ (n : ℕ) (y : Memtable) (e : entry a.memtables n ≡ Some y) (l : y.live ≡ true). (r.sound.lawful.cells n y e l).1 in
    let begins : Midst (NamedMemtable R L) a.memtables a.memtables (c.as_slice.result.now ++ (option_to_list freed.active ++ [])) c.new-cells.result.items =
    subst (λ (z : List SuperVersion × (List ℕ × List ℕ)). Midst (NamedMemtable z.0 L) a.memtables a.memtables (z.1.0 ++ (option_to_list freed.active ++ [])) z.1.1) (λ i. (sym is i, (sym c.as_slice.ensures.value i, sym c.new-cells.ensures i)))
    (midst-begins a r.sound s x r.at r.live freed.active freed.list L given (given ++ (option_to_list freed.active ++ [])) fa fl endL (λ n e. active-in freed.active given n e) (λ n i. given-in freed.active given n i)) in
    let swept = c.sweep.ensures.midst a.memtables (option_to_list freed.active ++ []) apart begins in
    let done = c.end_active.ensures.midst a.memtables [] apart swept in
    let done' : Midst (NamedMemtable (S a r.sound c.args.pack s x r.at r.live r.pack_is) L) a.memtables M [] c.end_active.new.cells.items = subst (λ z. Midst (NamedMemtable z L) a.memtables M [] c.end_active.new.cells.items) is done in
    let filed = c.retire_all.ensures.midst V a.files.numbers r.sound.lawful.numbers.once
    (λ n i. given-free a r.sound c.args.pack s x r.at r.live r.pack_is freed R rec c.args.last r.stays r.goes gone c.gone_version-gone.ensures V numbers c.release_version-numbers.ensures n (subst (In n) c.as_slice-2.ensures.value i))
    (subst (MidstFiles (NamedFile V) a.files.numbers a.files.numbers) (sym c.as_slice-2.ensures.value) (midst-files-begin a r.sound s x r.at r.live gone V numbers fv c.release_version-numbers.ensures)) in
    record {
      cleaned = record {
        at = r.at;
        live = r.live;
        free = r.free;
        memtables = midst-whole (NamedMemtable (S a r.sound c.args.pack s x r.at r.live r.pack_is) L) a.memtables M c.end_active.new.cells.items done';
        lists = lists-ended a r.sound s x r.at r.live freed.list L given fl endL;
        versions = versions-ended a r.sound s x r.at r.live gone V numbers fv c.release_version-numbers.ensures;
        numbers = midst-files-whole (NamedFile V) a.files.numbers files.numbers filed;
        is = λ i. record r.rest { supers = is i; memtables = M; lists = L; versions = V; files = c.retire_all.ensures.rest i };
      };
      gone = done.went;
    }
