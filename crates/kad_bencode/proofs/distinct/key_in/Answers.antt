use Rattle.kad_bencode.proofs.distinct.key_in.Goals as goal

pub returns : goal.returns
returns c key w s = c.key_at.ensures key s
