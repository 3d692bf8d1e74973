use Rattle.std.proofs.Common.{arith}
use Rattle.std.proofs.lemmas.Int.{to_z-of_z}
use Rattle.turning.proofs.Floors.{rounds_down}
use Rattle.turning.proofs.Machine.{floor_euclid}
use Rattle.motion.proofs.floor_div.Goals as goal

pub returns : goal.returns
returns c = record {
  value = grind (arith, to_z-of_z, floor_euclid);
  down = rounds_down c.args.z _ c.args.n c.requires (grind (arith, to_z-of_z, floor_euclid));
}
