use Rattle.dq_bell.proofs.roll.Roll.hand_lead.Goals as goal

pub leave-requires : goal.leave-requires
leave-requires g c = c.exchange_first.ensures.led _ c.requires.first
