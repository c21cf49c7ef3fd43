-- The numbers of a proper image, where the contents of its sections start, and its three levels of samples. Assumes nothing.
use Rattle.std.specs.Prelude.{ℕ, ◌+◌, ◌/◌, ◌≡◌, List, length}
use Rattle.format.specs.Image.{node_count, root_count, marked_nodes, before, sizes}
use Rattle.format.specs.Proper.{trits_of, shadows_of, Whole}
use Rattle.trits.specs.declared.Layout.{Layout}
use Rattle.trits.specs.declared.plan.Plan.{Plan}
use Rattle.trits.specs.declared.Samples.{Samples}

-- by L, n, c, k and h: a section's contents start after the sections before it and its own count
abbrev pub layout : ℕ → ℕ → ℕ → ℕ → ℕ → Layout
layout L n c k h =
    let zs : List ℕ = sizes L n k h in
    record {
      trits = L;
      nodes = n;
      roots = c;
      shadows = k;
      marked = h;
      at1 = before zs 0 + 4;
      at2 = before zs 1 + 4;
      at3 = before zs 2 + 4;
      at4 = before zs 3 + 4;
      at5 = before zs 4 + 4;
      at6 = before zs 5 + 4;
      at7 = before zs 6 + 4;
      at8 = before zs 7 + 4;
      at9 = before zs 8 + 4;
    }

-- the layout of the image of trits and shadows
abbrev pub laying : List ℕ → List ℕ → Layout
laying trits H = layout (length trits) (node_count trits) (root_count trits) (length H) (length (marked_nodes trits H))

unfoldable pub layout_of : List ℕ → Layout
layout_of b = laying (trits_of b) (shadows_of b)

-- b is a proper image, and lay its layout
pub record Laid (b : List ℕ) (lay : Layout) : Type 0 where
  pub whole : Whole b
  pub is : lay ≡ layout_of b

-- the samples of a plan from byte `at` on, over L trits
abbrev pub samples_of : Plan → ℕ → ℕ → Samples
samples_of p at L = record { at = at; width = p.width; step = p.step; fan = p.fan; last = L / p.step }

-- the three levels of samples: sections 6, 7 and 8
abbrev pub far_of : Layout → Samples
far_of lay = record { at = lay.at6; width = 4; step = 65725; fan = 2; last = lay.trits / 65725 }

abbrev pub middle_of : Layout → Samples
middle_of lay = record { at = lay.at7; width = 2; step = 275; fan = 239; last = lay.trits / 275 }

abbrev pub near_of : Layout → Samples
near_of lay = record { at = lay.at8; width = 1; step = 25; fan = 11; last = lay.trits / 25 }
