use Rattle.std.proofs.Common.{ℕ, ◌+◌, ◌*◌, ◌≤◌, arith}
use Rattle.std.proofs.lemmas.Nat.{mul-le}
use Rattle.drt_wave.specs.Cells.{most_cells}
use Rattle.drt_edf_fronts.proofs.Bounded.{most_of}
use Rattle.drt_edf_fronts.proofs.waves.has_wave_table.Goals as goal

few : (c : goal.After-greatest_degree) → c.greatest_degree.result ≤ 256
few c =
    let sound = c.vertex_count.ensures.sound in
    let most = most_of c.args.graph.now 256 sound.rows sound.degree in
    omega (arith, most, c.greatest_degree.ensures)

pub overflow_add-result : goal.overflow_add-result
overflow_add-result c = let most = few c in record { fits = omega (arith, most) }

pub overflow_mul-result : goal.overflow_mul-result
overflow_mul-result c =
    let most = few c in
    let cells : ℕ = c.from.result * (c.args.bound + 1) in
    let small : cells ≤ most_cells = omega (arith, c.if-cells-gt-MOST_CELLS.false) in
    let product = mul-le cells (c.greatest_degree.result + 2) most_cells 258 small (omega (arith, most)) in
    record { fits = omega (arith, product) }
