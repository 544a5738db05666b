use Rattle.dq_words.proofs.Together.{cancels_cover}
use Rattle.dq_words.proofs.seated.open.OpenWords.compare.Goals as goal

pub returns-clause-cancelled : goal.returns-clause-cancelled
returns-clause-cancelled g c = cancels_cover c.args.one.now.view c.args.other.view c.tell.ensures.together
