use Rattle.kad_bencode.proofs.scan.text_at.Goals as goal

pub returns-in-Some-clause-reads : goal.returns-in-Some-clause-reads
returns-in-Some-clause-reads c p a = c.in-Some.ensures.reads p a
