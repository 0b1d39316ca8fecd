use Rattle.std.proofs.Common.{◌≡◌, Global, List, ℕ, rules, string_bytes, subst, sym, tests}
use Rattle.std.specs.Prelude.{IfOk}
use Rattle.std.proofs.lemmas.Iterator.{YieldsList-from_slice, items_from_collect}
use Rattle.std.proofs.lemmas.Iterator.Consumers.{YieldsList-from_filter_map}
use Rattle.sv_dir.specs.TableNames.{number_named}
use Rattle.sv_store.proofs.ScanSteps.{filter-mapped}
use Rattle.sv_store.proofs.scans.numbers_of.Goals as goal

pub returns : goal.returns
returns c =
    subst (λ (l : List ℕ). IfOk c.collect.result (λ numbers. numbers.items ≡ l)) (sym (filter-mapped number_named (string_bytes {Z = Global}) c.args.names.now))
    (items_from_collect _ c.collect.ensures.ran
    (YieldsList-from_filter_map _ (λ name. number_named (string_bytes name)) (YieldsList-from_slice c.args.names.now cc) c.filter_map.ensures.closure (λ x r q k. search (rules, tests))))
