-- Known rows of path groups and reservation, computed from the definitions alone.
use Rattle.std.proofs.Common.{◌≡◌, ℕ, List, [], ◌∷◌, Some, None, true, false, map, refl}
use Rattle.std.specs.Prelude.{replicate}
use Rattle.ckd_types.specs.declared.channel.Ccw.{Ccw}
use Rattle.ckd_types.specs.declared.channel.CommandEnd.{CommandEnd}
use Rattle.ckd_types.specs.declared.geometry.Geometry.TheVariants.{D3390}
use Rattle.ckd_types.specs.declared.paths.Owner.TheVariants.{Group, Path}
use Rattle.ckd_types.specs.Commands.{command_of}
use Rattle.ckd_types.specs.Sense.{reject_sense}
use Rattle.plain_defs.specs.PlainState.{PlainState, empty_state, is_admitted, reset_path}
use Rattle.plain_defs.specs.Program.{part_of}

group : List ℕ
group = 1 ∷ 2 ∷ 3 ∷ 4 ∷ 5 ∷ 6 ∷ 7 ∷ 8 ∷ 9 ∷ 10 ∷ 11 ∷ []

one : ℕ → ℕ → List ℕ → List Ccw
one command count given = record { command = command; flags = 0; count = count; given = given } ∷ []

set_group : ℕ → List Ccw
set_group function = one 0xaf 12 (function ∷ group)

state_behind : PlainState → ℕ → List Ccw → PlainState
state_behind state path ccws = (part_of state path ccws [] 1).state

sent_by : PlainState → ℕ → List Ccw → List (List ℕ)
sent_by state path ccws = map (λ (e : CommandEnd). e.sent) (part_of state path ccws [] 1).ends

-- paths 1 and 2 are a group, and path 1 reserved the device
reserved_by_group : PlainState
reserved_by_group = state_behind (state_behind (state_behind (empty_state D3390 1) 1 (set_group 0x80)) 2
    (set_group 0x80)) 1 (one 0xb4 32 [])

group_holds : reserved_by_group.paths.owner ≡ Some (Group (record { bytes = group }))
unfolding reserved_by_group state_behind set_group one group part_of command_of
group_holds = refl

path_1_sees_it_here : sent_by reserved_by_group 1 (one 0x34 12 []) ≡ (0xf8 ∷ group) ∷ []
unfolding sent_by reserved_by_group state_behind set_group one group part_of command_of
path_1_sees_it_here = refl

path_2_sees_it_here : sent_by reserved_by_group 2 (one 0x34 12 []) ≡ (0xf8 ∷ group) ∷ []
unfolding sent_by reserved_by_group state_behind set_group one group part_of command_of
path_2_sees_it_here = refl

path_4_sees_it_elsewhere : sent_by reserved_by_group 4 (one 0x34 12 []) ≡ (0x20 ∷ replicate 11 0) ∷ []
unfolding sent_by reserved_by_group state_behind set_group one group part_of command_of
path_4_sees_it_elsewhere = refl

path_4_is_not_admitted : is_admitted reserved_by_group.paths 4 (one 0x06 8 []) ≡ false
unfolding reserved_by_group state_behind set_group one group part_of command_of
path_4_is_not_admitted = refl

path_4_may_ask : is_admitted reserved_by_group.paths 4 (one 0x34 12 []) ≡ true
unfolding reserved_by_group state_behind set_group one group part_of command_of
path_4_may_ask = refl

path_2_is_admitted : is_admitted reserved_by_group.paths 2 (one 0x06 8 []) ≡ true
unfolding reserved_by_group state_behind set_group one group part_of command_of
path_2_is_admitted = refl

path_3_takes_it : (state_behind reserved_by_group 3 (one 0x14 32 [])).paths.owner ≡ Some (Path 3)
unfolding reserved_by_group state_behind set_group one group part_of command_of
path_3_takes_it = refl

path_1_may_not_release_it : is_admitted (state_behind reserved_by_group 3 (one 0x14 32 [])).paths 1 (one 0x94 32 [])
    ≡ false
unfolding reserved_by_group state_behind set_group one group part_of command_of
path_1_may_not_release_it = refl

path_3_releases_it : (state_behind (state_behind reserved_by_group 3 (one 0x14 32 [])) 3 (one 0x94 32 [])).paths.owner
    ≡ None
unfolding reserved_by_group state_behind set_group one group part_of command_of
path_3_releases_it = refl

disbanded_by_path_2 : (state_behind reserved_by_group 2 (set_group 0x20)).paths.owner ≡ Some (Path 2)
unfolding reserved_by_group state_behind set_group one group part_of command_of
disbanded_by_path_2 = refl

one_reset_leaves_it : (reset_path reserved_by_group.paths 1).owner ≡ Some (Group (record { bytes = group }))
unfolding reserved_by_group state_behind set_group one group part_of command_of
one_reset_leaves_it = refl

two_resets_free_it : (reset_path (reset_path reserved_by_group.paths 1) 2).owner ≡ None
unfolding reserved_by_group state_behind set_group one group part_of command_of
two_resets_free_it = refl

-- a path that isn't in the group can't resign from it
resigned_by_path_4 : map (λ (e : CommandEnd). e.sense) (part_of reserved_by_group 4 (set_group 0x40) [] 1).ends
    ≡ Some (reject_sense 4) ∷ []
unfolding reserved_by_group state_behind set_group one group part_of command_of
resigned_by_path_4 = refl
