mod Lanes
