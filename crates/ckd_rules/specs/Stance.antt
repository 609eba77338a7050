-- Where a chain stands between two commands.
use Rattle.std.specs.Prelude.{ℕ, ◌-◌, ◌==◌, is_some, false, Option, None, if◌then◌else◌}
use Rattle.ckd_types.specs.declared.parameters.Domain.{Domain}
use Rattle.ckd_rules.specs.declared.stance.Stance.{Stance}
use Rattle.ckd_rules.specs.declared.stance.Place.TheVariants.{Index}
use Rattle.ckd_rules.specs.declared.stance.After.TheVariants.{Other}

-- a chain begins at track 0
abbrev pub first_stance : Stance
first_stance = record {
  extent = None;
  mask = 0;
  mask_set = false;
  domain = None;
  left = 0;
  track = 0;
  place =
      Index;
  passes = 0;
  after = Other;
  commands = 0;
  moved = 0;
}

-- the domain ends with its last command
abbrev pub domain_with : ℕ → Option Domain → Option Domain
domain_with left domain = if left == 0 then None else domain

-- a command of the domain, where there is one, ended well
abbrev pub one_less : Stance → Stance
one_less s = if is_some s.domain then record s { left = s.left - 1; domain = domain_with (s.left - 1) s.domain } else s
