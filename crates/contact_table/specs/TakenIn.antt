-- What a contact that was seen leaves of the buckets, and of the siblings beside them.
use Rattle.std.specs.Prelude.{◌≡◌}
use Rattle.kad_base.specs.declared.types.Contact.{Contact}
use Rattle.bucket_tree.specs.declared.types.Seen.{Seen}
use Rattle.bucket_tree.specs.Rows.{BucketsState}
use Rattle.bucket_tree.specs.BucketSteps.{SeenStep}
use Rattle.sibling_list.specs.Siblings.{SiblingList}
use Rattle.contact_table.specs.TableStep.{seen_siblings}

pub record IsTakenIn (t : BucketsState) (s : SiblingList) (c : Contact) (seen : Seen) (t' : BucketsState) (s' : SiblingList) : Type 0 where
  pub step : SeenStep t.own t.k t.b c t.rows seen t'.rows
  pub own : t'.own ≡ t.own
  pub k : t'.k ≡ t.k
  pub b : t'.b ≡ t.b
  pub beside : s'.own ≡ s.own
  pub list : s'.list ≡ seen_siblings s c seen
