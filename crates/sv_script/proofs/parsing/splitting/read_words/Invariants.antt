use Rattle.std.proofs.Common.{◌≡◌, filter, length, map, nat_lt}
use Rattle.sv_script.proofs.parsing.splitting.read_words.Given as goal

abbrev pub invariant-loop-piece : goal.invariant-loop-piece
invariant-loop-piece l = map (λ word. word.now) l.words.items ≡ filter (λ piece. nat_lt 0 (length piece)) (map (λ piece. piece.now) l.yielded)
