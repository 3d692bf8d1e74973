-- What a wall's line wants.
use Rattle.std.specs.Prelude.{List}
use Rattle.level_theory.specs.Words.{Want}
use Rattle.level_theory.specs.Levels.{Form}
use Rattle.level_theory.specs.Reading.{number_wants}

abbrev pub wall_wants : Form → List Want
wall_wants form = number_wants form.wall_numbers form.largest
