-- No public clause cites this module.
-- The tokens that are left of a line.
use Rattle.std.specs.Prelude.{ℕ, List, [], Option, Some, None}
use Rattle.std.specs.Borrow.{Bor}
use Rattle.dq_replay.specs.Text.{tokens_of}

-- none behind the last token
abbrev pub tokens_behind : Option (Bor (List ℕ)) → List (List ℕ)
tokens_behind None = []
tokens_behind (Some rest) = tokens_of rest.now
