use Rattle.kad_distance.proofs.Chosen.{closest_rises, closest_few, closest_among, closest_below, closest_front, closest_same, closest_joined, closest_beyond}
use Rattle.kad_distance.proofs.laws.closest_laws.Goals as goal

pub returns : goal.returns
returns c = record {
  strict_order = closest_rises;
  at_most = closest_few;
  of_list = closest_among;
  nearer = closest_below;
  front = closest_front;
  same = closest_same;
  joined = closest_joined;
  added = closest_beyond;
}
