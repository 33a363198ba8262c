use Rattle.std.proofs.Common.{◌≡◌, w64, to_z, of_z, to_z-of_z, rules}
use Rattle.plans.proofs.Misfitting.{pair_checked}
use Rattle.plans.proofs.checks.check_pair.Goals as goal

pub returns : goal.returns
returns g c =
    let t : to_z w64 (of_z w64 c.from.result) ≡ c.args.row.t = search (rules, to_z-of_z) in
    let s : to_z w64 (of_z w64 c.from-2.result) ≡ c.args.row.s = search (rules, to_z-of_z) in
    pair_checked g.met.D.Delay.lawful g.D.Delay.means g.met.D.Delay.within c.args.row t s c.read_pair.result c.read_pair.ensures
