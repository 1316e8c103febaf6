use Rattle.law_report.proofs.Joined.{joined_found, joined_made}
use Rattle.law_report.proofs.Listing.{listed_joins, joins_listed, edges_ascend}
use Rattle.law_report.proofs.edges_are_the_pairs.Goals as goal

pub returns : goal.returns
returns c = record {
  sound = λ e n a b h. let j = listed_joins e n a b h in (j.0, j.1, joined_found e a b j.2);
  complete = λ e n a b less small near. joins_listed e n a b less small (joined_made e a b near);
  order = edges_ascend;
}
