pub mod ReadyCounts
