-- What sections 5 to 8 are written and checked from: the contents of sections 1 and 2. Assumes nothing.
use Rattle.std.specs.Prelude.{ℕ, ◌+◌, ◌-◌, ◌*◌, ◌≤◌, ◌≡◌, List, length, take, drop}
use Rattle.format.specs.Lists.{count_in, Below}
use Rattle.format.specs.Trits.{trytes}
use Rattle.format.specs.Image.{bytes, node_count}
use Rattle.format.specs.Table.{AllNodes}

-- bs is section 1's contents: the trytes of the trits
pub record TritsIn (trits bs : List ℕ) : Type 0 where
  pub threes : Below 3 trits
  pub few : length trits ≤ 125536
  pub trytes_are : bs ≡ trytes trits

-- section 1's contents stand in the image from a up to e, and end before place `at`
pub record TritsAt (trits image : List ℕ) (a e at : ℕ) : Type 0 where
  pub rises : a ≤ e
  pub before : e ≤ at
  pub trits_in : TritsIn trits (take (e - a) (drop a image))

-- section 2's contents stand in the image from a on, and end before place `at`: the shadows, a node for every 2
pub record ShadowsAt (trits H image : List ℕ) (a at : ℕ) : Type 0 where
  pub paired : length H ≡ count_in 2 trits
  pub nodes : AllNodes (node_count trits) H
  pub nodes_few : node_count trits ≤ 30000
  pub before : a + 2 * length H ≤ at
  pub shadows_are : take (2 * length H) (drop a image) ≡ bytes 2 H
