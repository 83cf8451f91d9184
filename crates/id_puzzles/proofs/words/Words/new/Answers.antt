use Rattle.id_puzzles.proofs.Seeds.{new_drawn, new_seeded}
use Rattle.id_puzzles.proofs.words.Words.new.Goals as goal

pub invariant_of-result : goal.invariant_of-result
invariant_of-result c = rw (c.set_word_pos.ensures, c.from_seed-rng.ensures) (new_seeded c.args.seed.now _ c.told-seed c.fits-seed)

pub returns : goal.returns
returns c = rw (c.set_word_pos.ensures, c.from_seed-rng.ensures, c.from.ensures) (new_drawn c.args.seed.now c.args.at c.told-seed c.fits-seed c.requires)
