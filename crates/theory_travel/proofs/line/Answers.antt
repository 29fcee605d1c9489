-- `theory_travel::line` meets its contract. A product is below 65,536 · 4,294,967,296 = 2^48, since ticks
-- have 16 bits and values 32, so the sum of two and a width fits 64 bits; the quotient lies between the two
-- values, so it fits 32.
use Prim.Native.Nat.{ℕ, ◌-◌, ◌*◌, ◌≤◌, ◌<◌}
use native.Mathlib.{Nat.mul-le-mul_left, Omega.arith}
use Rattle.theory_travel.specs.Line.{line, line_most}
use Rattle.theory_travel.proofs.line.Goals as goal

-- a value times a number of ticks
product : (v d : ℕ) → d < 65536 → v * d ≤ v * 65535
product v d h = mul-le-mul_left v (omega arith)

pub overflow_mul-result : goal.overflow_mul-result
overflow_mul-result c =
    rw (c.from.ensures, c.from-2.ensures)
    (omega (arith, product c.args.v (c.args.b - c.args.x) (omega arith)))

pub overflow_mul-result-2 : goal.overflow_mul-result-2
overflow_mul-result-2 c =
    rw (c.from-3.ensures, c.from-4.ensures)
    (omega (arith, product c.args.w (c.args.x - c.args.a) (omega arith)))

pub overflow_add-result : goal.overflow_add-result
overflow_add-result c =
    rw (c.from.ensures, c.from-2.ensures, c.from-3.ensures, c.from-4.ensures)
    (omega (
      arith,
      product c.args.v (c.args.b - c.args.x) (omega arith),
      product c.args.w (c.args.x - c.args.a) (omega arith),
    ))

pub overflow_add-result-2 : goal.overflow_add-result-2
overflow_add-result-2 c =
    rw (c.from.ensures, c.from-2.ensures, c.from-3.ensures, c.from-4.ensures, c.from-5.ensures)
    (omega (
      arith,
      product c.args.v (c.args.b - c.args.x) (omega arith),
      product c.args.w (c.args.x - c.args.a) (omega arith),
    ))

pub overflow_cast-result : goal.overflow_cast-result
unfolding line
overflow_cast-result c =
    rw (
      c.from.ensures,
      c.from-2.ensures,
      c.from-3.ensures,
      c.from-4.ensures,
      c.from-5.ensures,
      c.from-6.ensures,
    )
    (omega (
      arith,
      line_most c.args.x c.args.a c.args.v c.args.b c.args.w c.requires.0 c.requires.1 4294967295
          (omega arith) (omega arith),
    ))

pub returns : goal.returns
unfolding line
returns c =
    rw (
      c.from.ensures,
      c.from-2.ensures,
      c.from-3.ensures,
      c.from-4.ensures,
      c.from-5.ensures,
      c.from-6.ensures,
    )
