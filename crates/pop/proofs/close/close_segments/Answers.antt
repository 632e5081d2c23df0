-- The band's rows alone are those that are touched.
use Rattle.std.proofs.Common.{[]}
use Rattle.pop.proofs.Banded.{among, own-ready, same-puts}
use Rattle.pop.proofs.close.close_segments.Goals as goal

pub close_list-requires : goal.close_list-requires
close_list-requires c = record { ready = own-ready c.requires c.scene_in.ensures; among = among c.scene_in.ensures c.requires.starts.top 0 [] 0 }

pub returns-clause-rows : goal.returns-clause-rows
returns-clause-rows c = rw (same-puts c.scene_in.ensures c.requires.starts.top _ _ _ _) at c.close_list.ensures.rows
