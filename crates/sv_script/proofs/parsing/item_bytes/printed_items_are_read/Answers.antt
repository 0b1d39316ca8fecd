use Rattle.sv_script.proofs.ItemLemmas.{printed-again}
use Rattle.sv_script.proofs.parsing.item_bytes.printed_items_are_read.Goals as goal

pub returns : goal.returns
returns c = record { again = printed-again }
